pub mod Positions
pub mod Picking
