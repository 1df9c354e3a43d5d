pub mod Formats
pub mod Pictures
pub mod Placing
pub mod Joining
pub mod Division
