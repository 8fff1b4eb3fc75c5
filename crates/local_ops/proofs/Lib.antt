pub mod Parts
pub mod Writing
pub mod Numbers
pub mod Spaces
pub mod Fieldwise
pub mod Wholes
pub mod Linewise
