pub mod Agreeing
pub mod Configuring
pub mod Evaluating
pub mod Filling
pub mod Going
