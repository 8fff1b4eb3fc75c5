pub mod Answers
pub mod Talks
