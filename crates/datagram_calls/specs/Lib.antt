pub mod Screens
pub mod Slots
pub mod Answered
