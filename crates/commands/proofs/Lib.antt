pub mod Lending
pub mod Turning
pub mod Parts
pub mod Promises
