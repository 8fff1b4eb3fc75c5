pub mod Copies
pub mod Shown
