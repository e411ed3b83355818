pub mod Judging
pub mod Room
