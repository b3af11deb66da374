pub mod Handling
pub mod Noting
pub mod Backward
pub mod Chaining
pub mod Passing
pub mod Measuring
