pub mod Directive
pub mod Grammar
pub mod Reading
pub mod Text
