pub mod Places
pub mod Orders
pub mod RowPlaces
pub mod Filling
pub mod Stays
mod Lasts
