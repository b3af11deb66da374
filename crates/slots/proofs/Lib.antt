pub mod Places
pub mod Sorting
pub mod Owning
pub mod Resolving
pub mod Laying
pub mod Storing
