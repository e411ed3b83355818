pub mod FromZero
pub mod Search
pub mod Rows
pub mod Spots
pub mod Answers
