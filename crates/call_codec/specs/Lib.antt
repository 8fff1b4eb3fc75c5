pub mod CallValues
pub mod Readings
pub mod Answers
pub mod OutcomeValues
pub mod Replies
pub mod Records
pub mod Parts
pub mod Dests
