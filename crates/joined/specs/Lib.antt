pub mod Asking
pub mod Rising
pub mod Right
pub mod Rows
