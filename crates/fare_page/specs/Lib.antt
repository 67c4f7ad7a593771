pub mod Seen
pub mod Metrics
pub mod Gauges
pub mod Answering
pub mod Pausing
