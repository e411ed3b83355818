pub mod Room
pub mod Determined
