pub mod Choosing
pub mod Serving
pub mod Examples
