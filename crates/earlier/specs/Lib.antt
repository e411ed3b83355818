pub mod Pairs
pub mod Earlier
