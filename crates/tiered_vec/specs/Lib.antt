pub mod Tiers
pub mod Moves
