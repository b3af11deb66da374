pub mod Stepping
pub mod Reaching
pub mod Turning
pub mod Seeding
pub mod Finding
