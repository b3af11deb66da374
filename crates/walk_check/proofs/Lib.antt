pub mod Standing
pub mod Going
pub mod Checking
