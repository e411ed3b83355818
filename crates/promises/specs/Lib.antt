pub mod Allowed
pub mod Promises
