pub mod Writing
pub mod Answers
pub mod Rows
