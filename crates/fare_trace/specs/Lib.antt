pub mod Faults
pub mod Answers
pub mod Registration
pub mod Stores
pub mod Progress
pub mod Schemes
