pub mod Schemas
pub mod Commands
pub mod Places
pub mod Layouts
pub mod Growing
