pub mod Names
pub mod Moved
pub mod Holds
pub mod Followed
