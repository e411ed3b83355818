pub mod Joined
pub mod Away
pub mod Pieces
pub mod Lowest
pub mod Tables
