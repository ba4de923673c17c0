pub mod Held
pub mod Site
pub mod Steps
pub mod Told
