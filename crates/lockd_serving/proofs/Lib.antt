pub mod Unbegun
