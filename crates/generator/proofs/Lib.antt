pub mod Writing
pub mod Wholes
pub mod Answering
