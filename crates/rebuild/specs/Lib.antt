pub mod Relaid
pub mod Steps
