pub mod Looking
pub mod Remaining
pub mod Whole
pub mod Determined
