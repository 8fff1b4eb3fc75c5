pub mod Fits
pub mod OneVerdict
pub mod OneAnswer
