pub mod SlipAnswers
pub mod SlipDemands
