pub mod Gaining
pub mod Entering
