pub mod OpenDays
pub mod Weeks
pub mod Answering
pub mod Resuming
pub mod Acknowledging
pub mod Pruning
