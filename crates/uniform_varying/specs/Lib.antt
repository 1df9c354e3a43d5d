pub mod Counts
pub mod Gives
pub mod Leaving
pub mod Nodes
