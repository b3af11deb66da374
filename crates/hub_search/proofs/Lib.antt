pub mod Places
pub mod Entries
pub mod Growing
pub mod Seeks
pub mod RowScans
pub mod Rooting
pub mod Turning
