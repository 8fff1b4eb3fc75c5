pub mod Cuts
pub mod Fronts
pub mod Appending
pub mod Taken
