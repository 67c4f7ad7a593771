pub mod Cells
pub mod Asking
pub mod Queries
pub mod Making
pub mod Tabled
pub mod Opened
pub mod Records
