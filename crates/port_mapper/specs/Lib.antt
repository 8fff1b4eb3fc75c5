pub mod Mappings
pub mod Calls
pub mod Replies
