pub mod Scannable
pub mod Next
pub mod Start
