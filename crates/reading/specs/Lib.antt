pub mod Numbers
pub mod Parts
pub mod Reading
pub mod Answers
pub mod Files
pub mod Rows
