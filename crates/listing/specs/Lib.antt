pub mod Listing
pub mod Rows
