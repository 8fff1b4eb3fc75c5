pub mod Eight
pub mod Fits
pub mod Spelled
