pub mod Writing
pub mod Starting
pub mod AllStated
