pub mod Ran
pub mod Times
