pub mod Clock
pub mod TrafficDay
pub mod Week
