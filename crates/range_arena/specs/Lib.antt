pub mod Reaches
pub mod Indexed
pub mod Quick
