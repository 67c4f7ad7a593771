mod Nodes
pub mod Creation
mod Unread
pub mod Meant
pub mod Untouched
pub mod Grown
pub mod Others
pub mod Again
