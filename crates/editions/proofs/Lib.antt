pub mod Editions
pub mod Examples
