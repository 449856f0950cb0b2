pub mod Values
pub mod Outcome
