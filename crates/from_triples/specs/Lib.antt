pub mod From
pub mod Ends
pub mod Nodes
