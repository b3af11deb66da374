pub mod SecondReplies
pub mod SecondCalls
pub mod Replying
