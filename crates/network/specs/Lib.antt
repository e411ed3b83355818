pub mod Lines
pub mod Chains
pub mod Judging
pub mod Orders
pub mod Faults
pub mod Rows
pub mod Stations
pub mod Walks
