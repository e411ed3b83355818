pub mod Alike
pub mod Starts
pub mod Calls
pub mod Seven
