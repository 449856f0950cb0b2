pub mod Grammar
pub mod Keywords
pub mod Reading
pub mod Steps
pub mod Texts
