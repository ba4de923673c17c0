pub mod Judging
pub mod Gating
