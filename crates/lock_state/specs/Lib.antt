pub mod Answered
pub mod Listed
pub mod Seen
pub mod ReadyAt
pub mod Whole
