pub mod Passing
pub mod Looking
