pub mod LineLemmas
pub mod PartLemmas
