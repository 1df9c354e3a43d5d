pub mod Shorter
pub mod Small
