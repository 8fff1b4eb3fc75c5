pub mod Callers
pub mod Ranges
