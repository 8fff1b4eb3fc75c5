pub mod Task
pub mod Passes
