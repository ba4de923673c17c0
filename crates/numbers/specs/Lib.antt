pub mod Little
pub mod Fields
