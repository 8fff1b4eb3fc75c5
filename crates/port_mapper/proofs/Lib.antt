pub mod Fits
pub mod Readings
