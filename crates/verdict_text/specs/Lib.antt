pub mod Lines
pub mod Checked
