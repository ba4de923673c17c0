pub mod Logging
pub mod RunDemands
pub mod RunAnswers
