pub mod Changing
pub mod Making
