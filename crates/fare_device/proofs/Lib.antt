pub mod Counting
pub mod Kept
pub mod Numbering
pub mod Places
pub mod Sums
pub mod Without
