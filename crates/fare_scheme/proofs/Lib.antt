pub mod Adding
pub mod Changing
pub mod Demonstrating
pub mod Known
pub mod Slices
