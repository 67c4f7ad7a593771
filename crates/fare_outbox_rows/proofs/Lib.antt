pub mod Texts
pub mod Placed
pub mod Found
pub mod Links
pub mod Puts
pub mod Batches
