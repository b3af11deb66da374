pub mod Plant
pub mod PlantOf
pub mod Grouped
pub mod Question
pub mod Demand
