pub mod Split
pub mod Packed
pub mod Place
