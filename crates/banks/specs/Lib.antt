pub mod Room
pub mod Gains
pub mod Listing
