pub mod FirstReply
