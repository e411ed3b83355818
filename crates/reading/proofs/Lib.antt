pub mod Parts
pub mod Records
pub mod Files
pub mod Contents
pub mod Into
pub mod Determined
pub mod Rows
