pub mod Answering
pub mod Rowing
