pub mod To
pub mod Say
