pub mod Intakes
pub mod Sources
pub mod Listened
