pub mod Splitting
pub mod Packing
pub mod Places
pub mod Sized
