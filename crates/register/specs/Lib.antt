pub mod Calls
pub mod Files
pub mod OneImage
pub mod Promises
pub mod Steps
