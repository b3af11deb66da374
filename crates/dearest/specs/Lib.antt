pub mod Dearest
pub mod Answer
