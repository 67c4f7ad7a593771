pub mod Tables
pub mod Left
pub mod Lists
pub mod Told
pub mod Since
pub mod Opened
pub mod Small
pub mod Kept
