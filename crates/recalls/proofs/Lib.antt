pub mod Found
pub mod Promised
pub mod Recalls
pub mod Examples
