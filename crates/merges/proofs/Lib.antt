pub mod Joining
pub mod Ways
