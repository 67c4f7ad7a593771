pub mod Distinct
pub mod Parts
pub mod Steps
pub mod Ends
pub mod Told
pub mod LineSteps
pub mod LineEnds
