pub mod Four
pub mod Visit
pub mod Left
