pub mod Histories
pub mod ReadMoved
pub mod Demands
pub mod Answers
pub mod Refusals
