pub mod Cells
pub mod Positions
