pub mod Differences
pub mod Promises
pub mod Union
pub mod OneByOne
pub mod UnionPromises
pub mod Steps
