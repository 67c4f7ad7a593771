pub mod Texts
pub mod Own
pub mod Listed
pub mod Placed
