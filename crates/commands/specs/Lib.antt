pub mod Execute
pub mod Log
pub mod Promises
pub mod Steps
