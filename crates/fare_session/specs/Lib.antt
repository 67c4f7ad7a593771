pub mod Stores
pub mod Forwarding
pub mod Taking
pub mod Batching
pub mod Resting
pub mod Asking
pub mod Session
pub mod Served
