pub mod Founds
pub mod Refusals
