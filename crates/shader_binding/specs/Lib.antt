pub mod Predefined
pub mod Sets
pub mod Bindings
