pub mod Owns
pub mod Stands
pub mod Turns
