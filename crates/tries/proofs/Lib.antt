pub mod Standing
pub mod Cutting
