pub mod Writing
pub mod Spanning
pub mod Ranges
pub mod Spelling
pub mod Settling
pub mod Frame
pub mod Extending
