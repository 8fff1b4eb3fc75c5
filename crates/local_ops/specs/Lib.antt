pub mod Texts
pub mod Answers
pub mod Grammar
pub mod Reading
pub mod Words
pub mod Calls
