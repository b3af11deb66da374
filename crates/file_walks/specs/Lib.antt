pub mod Walks
pub mod Moving
