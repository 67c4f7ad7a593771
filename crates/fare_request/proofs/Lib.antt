pub mod Hosts
pub mod Named
pub mod Single
pub mod Words
