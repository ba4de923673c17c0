pub mod AnyBytes
pub mod AfterFresh
pub mod ComparisonDemands
pub mod ComparisonAnswers
