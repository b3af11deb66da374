pub mod Slots
pub mod Layout
