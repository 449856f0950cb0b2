pub mod Congruence
pub mod Labels
pub mod Working
pub mod Pending
pub mod Props
