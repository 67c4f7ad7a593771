pub mod Words
pub mod First
pub mod Opening
pub mod Orders
pub mod Batches
