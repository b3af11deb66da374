pub mod CallLists
pub mod Homing
pub mod Ascending
