pub mod Visiting
pub mod Answering
