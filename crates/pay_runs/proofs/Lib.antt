pub mod Heads
pub mod PutKeeps
pub mod Lookahead
pub mod Items
pub mod Running
pub mod ToTheByte
pub mod Replies
pub mod Promises
