pub mod Zones
pub mod Entries
pub mod Growth
pub mod LookUps
pub mod Days
