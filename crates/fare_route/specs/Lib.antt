pub mod Cursors
pub mod Routing
pub mod Stating
