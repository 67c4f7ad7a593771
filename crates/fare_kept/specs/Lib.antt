pub mod Tables
pub mod Statements
