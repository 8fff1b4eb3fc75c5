pub mod Sendings
pub mod Oldest
pub mod Order
