pub mod ZoneWord
pub mod Grammar
pub mod Lines
pub mod Unread
pub mod Faults
pub mod Reading
pub mod Replies
