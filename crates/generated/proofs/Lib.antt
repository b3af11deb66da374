pub mod Generated
pub mod Examples
