pub mod Fold
pub mod Count
pub mod Tables
