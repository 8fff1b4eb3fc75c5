pub mod Views
pub mod Pages
