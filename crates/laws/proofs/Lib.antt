pub mod Truth
pub mod Fold
pub mod Count
pub mod Decide
pub mod Lists
pub mod Injections
pub mod Tables
