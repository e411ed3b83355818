pub mod Judging
pub mod Requests
pub mod Rows
