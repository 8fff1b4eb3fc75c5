pub mod Grammar
pub mod Verdict
pub mod Reply
pub mod Answered
pub mod Laws
