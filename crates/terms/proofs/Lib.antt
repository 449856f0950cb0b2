pub mod Standing
pub mod Same
pub mod Filing
pub mod NameSets
pub mod Changing
