pub mod Links
pub mod Nodes
pub mod Saying
pub mod Answering
