pub mod Positions
pub mod Resuming
pub mod Told
pub mod Opens
pub mod Asked
pub mod Queues
