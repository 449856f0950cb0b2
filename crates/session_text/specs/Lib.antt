pub mod Lines
pub mod Session
