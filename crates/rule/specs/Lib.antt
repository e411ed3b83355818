pub mod Rule
pub mod Rounds
