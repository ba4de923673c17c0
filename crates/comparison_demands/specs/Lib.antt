pub mod ComparisonAnswers
pub mod ComparisonDemands
