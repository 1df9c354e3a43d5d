pub mod Lookups
pub mod Fetching
pub mod Spans
mod Coding
pub mod Texts
pub mod Lines
pub mod Puts
pub mod Entries
pub mod Saying
pub mod Asking
pub mod Stepping
