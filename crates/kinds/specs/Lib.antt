pub mod Kinds
pub mod Seek
