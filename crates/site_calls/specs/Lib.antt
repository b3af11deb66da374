pub mod Against
pub mod Called
