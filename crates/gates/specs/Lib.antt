pub mod Gates
pub mod Steps
