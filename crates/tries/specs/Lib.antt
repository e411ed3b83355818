pub mod Tries
pub mod Cutting
