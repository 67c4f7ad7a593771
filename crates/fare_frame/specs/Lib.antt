pub mod Table
pub mod Grammar
pub mod Decoding
pub mod Reading
