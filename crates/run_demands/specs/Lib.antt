pub mod RunAnswers
pub mod RunDemands
