pub mod Reading
pub mod Steps
pub mod Facts
pub mod Holding
pub mod Ending
pub mod Small
pub mod Printing
