pub mod Nodes
pub mod Naming
