pub mod Pushing
pub mod Ruled
pub mod Seven
pub mod Entered
pub mod Told
