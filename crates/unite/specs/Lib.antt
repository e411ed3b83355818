pub mod Union
pub mod Unites
pub mod Answers
pub mod Adding
pub mod Rows
