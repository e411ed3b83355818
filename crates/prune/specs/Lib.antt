pub mod Pruning
pub mod Answers
pub mod Rows
