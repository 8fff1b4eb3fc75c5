pub mod Lookups
pub mod Laws
