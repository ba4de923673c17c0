pub mod Sifting
pub mod Tallying
pub mod Together
