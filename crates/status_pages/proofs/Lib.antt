pub mod Escaping
pub mod Fields
pub mod Joins
