pub mod Survey
pub mod Promises
pub mod Steps
