pub mod Idle
pub mod Due
