pub mod Parts
pub mod Lines
