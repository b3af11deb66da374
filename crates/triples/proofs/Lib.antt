pub mod Keys
pub mod Made
pub mod From
pub mod Plain
pub mod Unique
pub mod To
pub mod Steps
pub mod Reading
