pub mod Rules
pub mod Tellings
pub mod Dropping
