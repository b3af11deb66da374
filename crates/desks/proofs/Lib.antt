pub mod Standing
pub mod Owning
pub mod Turning
