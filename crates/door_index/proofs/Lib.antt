pub mod Doors
pub mod Ranking
pub mod Indexing
