pub mod Rows
pub mod Put
pub mod Replaced
pub mod Numbers
pub mod Read
pub mod Written
pub mod Widths
