pub mod Kept
pub mod Answers
pub mod Chosen
pub mod Filled
pub mod Rows
