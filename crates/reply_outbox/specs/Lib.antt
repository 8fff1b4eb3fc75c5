pub mod Posted
pub mod Gates
pub mod SentReplies
pub mod Effects
pub mod Writes
pub mod DoneTo
