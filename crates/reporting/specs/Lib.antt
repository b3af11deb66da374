pub mod Length
pub mod Reporting
