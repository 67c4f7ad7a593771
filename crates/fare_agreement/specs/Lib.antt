pub mod Agreeing
pub mod Growing
pub mod Stopping
pub mod Told
pub mod Totals
pub mod Parts
pub mod Attempted
pub mod WorkedStop
