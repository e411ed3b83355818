pub mod Rounds
pub mod Plans
pub mod Determined
