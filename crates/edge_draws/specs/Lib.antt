pub mod Edges
pub mod Bounds
