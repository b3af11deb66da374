pub mod Bound
pub mod DearPart
pub mod DearPath
pub mod Dearest
pub mod Examples
