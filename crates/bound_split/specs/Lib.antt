pub mod Lengths
pub mod Decisions
pub mod Leaves
pub mod Squares
pub mod Culling
pub mod Extents
