pub mod Registers
pub mod Sold
