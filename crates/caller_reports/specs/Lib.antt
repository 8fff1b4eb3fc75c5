pub mod Reports
pub mod Nulls
