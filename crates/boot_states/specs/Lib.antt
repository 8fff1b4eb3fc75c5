pub mod Reports
pub mod Hosts
pub mod Views
pub mod Laws
