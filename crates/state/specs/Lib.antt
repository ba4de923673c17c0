pub mod State
pub mod Answer
pub mod Done
pub mod Promises
