pub mod Ranges
pub mod Values
pub mod Words
pub mod Facts
pub mod Registering
pub mod Sealing
pub mod Demo
pub mod Positions
