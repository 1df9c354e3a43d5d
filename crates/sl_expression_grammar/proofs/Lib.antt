mod Chains
pub mod Levels
pub mod Readers
