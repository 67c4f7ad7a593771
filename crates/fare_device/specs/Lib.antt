pub mod DeviceWords
pub mod Numbered
pub mod Tapping
pub mod Turning
