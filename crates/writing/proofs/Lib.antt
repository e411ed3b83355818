pub mod Slices
pub mod Written
pub mod WrittenRead
pub mod ReadWritten
pub mod Calls
pub mod Determined
pub mod Rows
