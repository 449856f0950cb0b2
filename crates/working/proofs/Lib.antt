pub mod Offers
pub mod Walks
pub mod Due
