pub mod Compare
pub mod Steps
