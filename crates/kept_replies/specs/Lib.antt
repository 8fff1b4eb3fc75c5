pub mod Pairs
pub mod Lent
