pub mod Looking
pub mod SlipAnswers
pub mod SlipDemands
