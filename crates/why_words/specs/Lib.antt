pub mod Question
pub mod Ranges
