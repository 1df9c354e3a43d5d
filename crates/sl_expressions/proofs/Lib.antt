pub mod Rows
pub mod Operands
pub mod Nodes
pub mod After
pub mod ScopeNames
pub mod Named
pub mod Chains
pub mod Choices
