pub mod Entries
pub mod Pushing
pub mod Fitting
pub mod Rereading
pub mod Fresh
pub mod Taking
pub mod OneScheme
