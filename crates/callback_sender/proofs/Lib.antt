pub mod CallLemmas
pub mod HandingLemmas
pub mod WaitLemmas
