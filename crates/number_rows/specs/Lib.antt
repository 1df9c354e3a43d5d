pub mod Planes
pub mod Truths
