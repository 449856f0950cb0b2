pub mod Grammar
pub mod Words
