pub mod Callers
pub mod Grants
pub mod Locals
pub mod Meanings
