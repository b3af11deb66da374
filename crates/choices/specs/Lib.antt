pub mod Choice
pub mod Shared
