pub mod LogDemands
pub mod LogAnswers
