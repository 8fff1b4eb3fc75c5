pub mod Joins
pub mod Counting
pub mod Holding
pub mod Answering
pub mod ReadingLemmas
pub mod HoldLaws
