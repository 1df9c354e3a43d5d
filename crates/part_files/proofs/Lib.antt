pub mod Joining
pub mod Unique
