pub mod Ends
pub mod Judging
pub mod Sound
pub mod Chains
pub mod Longer
pub mod Determined
pub mod Rows
