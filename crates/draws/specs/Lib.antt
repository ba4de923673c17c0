pub mod Draws
pub mod Steps
