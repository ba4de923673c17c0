pub mod Reading
pub mod Replying
pub mod ToTheByte
pub mod Lent
pub mod Promises
