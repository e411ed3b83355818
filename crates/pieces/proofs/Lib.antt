pub mod Away
pub mod Tables
pub mod Pieces
pub mod Chains
