pub mod Verdicts
pub mod Orders
pub mod Checking
pub mod Published
pub mod Plans
pub mod Checkable
pub mod Faults
pub mod Rows
