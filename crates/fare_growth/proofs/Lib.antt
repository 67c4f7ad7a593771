mod Lists
mod Same
mod Parts
mod EachKind
mod Adding
pub mod Keeping
mod Named
mod Looked
mod Found
mod Searching
mod OneRule
