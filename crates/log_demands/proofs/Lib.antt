pub mod Fits
pub mod OneMore
pub mod OneCommand
pub mod LogDemands
pub mod Session
pub mod LogAnswers
