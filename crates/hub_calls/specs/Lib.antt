pub mod CallList
pub mod Listing
