pub mod Told
pub mod Skips
