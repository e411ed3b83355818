pub mod After
pub mod Copying
pub mod Determined
pub mod Packing
pub mod Rows
