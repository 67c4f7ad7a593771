pub mod Billing
pub mod Causes
pub mod Closing
pub mod Faults
pub mod Forgetting
pub mod Retiring
pub mod Showing
pub mod Waiting
