pub mod Determined
pub mod Answers
pub mod Rows
