pub mod Outcome
pub mod Working
pub mod Cases
pub mod Judged
