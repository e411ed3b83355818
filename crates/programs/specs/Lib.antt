pub mod Keep
pub mod Weak
pub mod Texts
pub mod Programs
