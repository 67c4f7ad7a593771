pub mod Closed
pub mod Connected
pub mod Held
pub mod Holding
pub mod Opened
pub mod Reopened
