pub mod Pieces
pub mod Pushes
pub mod Turns
