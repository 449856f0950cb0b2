pub mod Terms
pub mod Bank
