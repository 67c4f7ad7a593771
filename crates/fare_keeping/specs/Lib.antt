pub mod Keeping
pub mod Leaving
