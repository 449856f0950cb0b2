pub mod Rewriting
pub mod Rewritten
pub mod Dropping
pub mod Outcome
pub mod Pairing
pub mod Matched
pub mod Viewing
