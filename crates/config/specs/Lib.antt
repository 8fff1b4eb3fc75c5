pub mod Settings
pub mod Lockd
pub mod Reads
pub mod Asked
