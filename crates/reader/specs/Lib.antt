pub mod Canonical
pub mod Decode
pub mod Drafts
pub mod Law
pub mod Outcome
pub mod Progress
