pub mod Standing
pub mod Rules
pub mod Calls
pub mod Promises
pub mod Laws
pub mod Safety
pub mod Working
