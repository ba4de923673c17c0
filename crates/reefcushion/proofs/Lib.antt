pub mod Telling
pub mod Calling
