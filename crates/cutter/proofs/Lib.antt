pub mod Sited
pub mod Choose
pub mod Remark
pub mod Cutter
pub mod Parts
pub mod Passes
