pub mod Outcomes
pub mod Telling
