pub mod Neighbours
pub mod Judging
pub mod Adding
pub mod Determined
pub mod Rows
