pub mod Rows
pub mod Anew
pub mod Honest
pub mod Laws
pub mod Runs
pub mod Histories
pub mod Holds
