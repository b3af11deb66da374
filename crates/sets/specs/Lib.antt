pub mod Sets
pub mod Reach
pub mod States
pub mod Follow
pub mod Table
pub mod Tally
pub mod NodeSet
pub mod Stack
