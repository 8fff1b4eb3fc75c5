pub mod Planned
pub mod Answers
pub mod Forgotten
pub mod Deferred
