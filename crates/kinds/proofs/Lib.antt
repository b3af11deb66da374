pub mod Marking
pub mod Seeking
pub mod Roots
