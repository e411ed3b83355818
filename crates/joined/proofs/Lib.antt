pub mod Asking
pub mod Right
pub mod Determined
pub mod Rows
