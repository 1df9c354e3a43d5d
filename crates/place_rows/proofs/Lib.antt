pub mod Sets
pub mod Rows
mod Zeroed
