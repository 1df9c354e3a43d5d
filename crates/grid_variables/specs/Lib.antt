pub mod Points
pub mod Variables
pub mod ByPlace
pub mod Places
pub mod Kept
pub mod Closings
