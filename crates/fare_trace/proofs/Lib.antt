pub mod Answering
pub mod Clocks
pub mod Stores
pub mod Progress
pub mod SchemeLines
pub mod Zones
pub mod Drafted
