pub mod Answers
pub mod Placed
