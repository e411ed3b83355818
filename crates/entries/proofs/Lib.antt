pub mod Placing
pub mod Determined
