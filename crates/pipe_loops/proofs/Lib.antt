pub mod Lent
pub mod DueCalls
pub mod PipeLemmas
pub mod AnsweredLemmas
pub mod Beginnings
mod TableLemmas
mod Bounded
