pub mod Bases
pub mod Counts
pub mod Ranges
pub mod Meshes
pub mod Polygons
pub mod Answers
