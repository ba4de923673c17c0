pub mod Known
pub mod Same
