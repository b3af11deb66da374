pub mod Whole
pub mod Visit
pub mod Answered
