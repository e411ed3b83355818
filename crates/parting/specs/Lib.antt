pub mod Standing
pub mod Parts
pub mod Answers
pub mod Looking
