pub mod Theory
pub mod Merging
pub mod Chaining
pub mod Visiting
pub mod Settling
pub mod Entailing
pub mod Postponing
