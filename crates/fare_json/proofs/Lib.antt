pub mod Objects
pub mod Whole
pub mod Values
