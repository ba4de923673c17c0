pub mod Fitting
pub mod Passing
pub mod InPlace
pub mod Meaning
