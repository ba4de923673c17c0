pub mod Looking
pub mod Counting
pub mod ImageTest
pub mod Knowing
pub mod Promises
