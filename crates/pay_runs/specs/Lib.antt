pub mod PayRun
pub mod Promises
pub mod Steps
