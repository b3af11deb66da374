pub mod Wording
pub mod Reports
pub mod Length
pub mod Examples
