pub mod Generate
pub mod Nodes
