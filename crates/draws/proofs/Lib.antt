pub mod Split
pub mod Table
pub mod Draws
