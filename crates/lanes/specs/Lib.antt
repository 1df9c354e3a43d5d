pub mod Masks
pub mod Kernels
pub mod Rows
pub mod Signs
pub mod Directions
pub mod Edges
