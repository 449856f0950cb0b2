pub mod Rows
pub mod Candidate
pub mod Form
pub mod Matching
pub mod Safety
pub mod Counted
pub mod Laws
pub mod Examples
