pub mod File
pub mod Readings
