pub mod Page
pub mod Small
pub mod Places
pub mod Area
pub mod Steps
