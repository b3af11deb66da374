pub mod Checker
pub mod Check
pub mod Plant
