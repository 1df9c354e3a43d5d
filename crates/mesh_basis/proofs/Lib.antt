pub mod Near
pub mod Rows
pub mod Blends
pub mod Runs
