pub mod Seating
pub mod Keeping
mod Counting
