pub mod Spans
pub mod Steps
mod StringBytes
