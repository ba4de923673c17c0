pub mod MergeDemands
pub mod MergeAnswers
