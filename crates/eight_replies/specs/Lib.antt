pub mod Eight
pub mod Asking
pub mod Rounds
