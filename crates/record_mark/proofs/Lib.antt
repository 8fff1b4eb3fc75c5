pub mod StreamLemmas
pub mod KeptLemmas
pub mod OneReading
pub mod SentLemmas
pub mod UntakenLemmas
