pub mod Marks
pub mod Answers
pub mod Memory
pub mod Places
pub mod Standing
pub mod Offers
