pub mod Ending
pub mod Going
pub mod Writing
pub mod Filing
