pub mod Walk
pub mod Measured
