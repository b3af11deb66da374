pub mod Accepted
pub mod Writing
pub mod Answering
