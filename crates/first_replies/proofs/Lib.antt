pub mod Written
pub mod Reported
pub mod FirstReplies
pub mod Traffic
pub mod Alike
