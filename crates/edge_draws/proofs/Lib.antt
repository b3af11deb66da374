pub mod Inserting
pub mod Gathering
