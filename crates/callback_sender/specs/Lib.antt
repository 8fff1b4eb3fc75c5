pub mod Calls
pub mod Handing
pub mod SentCalls
pub mod Waits
