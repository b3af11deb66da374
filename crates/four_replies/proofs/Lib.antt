pub mod Visits
pub mod Promised
