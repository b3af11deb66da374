pub mod Choosing
pub mod Levels
pub mod Finding
pub mod Rounds
