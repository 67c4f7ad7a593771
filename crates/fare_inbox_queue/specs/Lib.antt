pub mod Rooms
pub mod Inbox
pub mod InboxPasses
pub mod Line
pub mod LinePasses
