pub mod Counting
pub mod Writing
pub mod Contrasting
