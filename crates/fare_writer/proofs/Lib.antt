pub mod Asked
pub mod Puttings
pub mod Wrote
pub mod Told
pub mod Handled
pub mod Written
pub mod Batches
