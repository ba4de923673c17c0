pub mod Homes
pub mod Promises
pub mod Steps
