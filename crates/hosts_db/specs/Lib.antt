pub mod Places
pub mod Kept
pub mod Calls
pub mod Notes
pub mod Writings
pub mod Outlives
pub mod KeptHosts
