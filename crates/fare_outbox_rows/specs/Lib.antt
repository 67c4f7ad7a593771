pub mod Tables
pub mod Statements
pub mod Layouts
pub mod Held
pub mod Making
pub mod Shown
pub mod Batches
