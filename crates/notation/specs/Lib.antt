pub mod Written
pub mod Shown
