pub mod Laying
pub mod Sharing
pub mod Eights
pub mod Promised
