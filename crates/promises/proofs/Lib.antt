pub mod Calls
pub mod Fronts
pub mod Pins
pub mod CFace
pub mod Codes
pub mod Example
pub mod Promises
