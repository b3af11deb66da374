pub mod Leading
pub mod Moves
pub mod Meaning
pub mod Running
pub mod Deciding
