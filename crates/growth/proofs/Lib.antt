pub mod Given
pub mod Ended
pub mod Found
pub mod Growth
