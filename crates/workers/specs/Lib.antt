pub mod Holds
pub mod Laws
pub mod Answers
pub mod Places
pub mod Sending
pub mod Reading
