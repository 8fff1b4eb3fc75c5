pub mod Gathered
pub mod Finding
