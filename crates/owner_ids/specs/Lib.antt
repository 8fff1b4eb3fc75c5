pub mod Views
pub mod Held
pub mod Names
pub mod Orders
pub mod Kept
