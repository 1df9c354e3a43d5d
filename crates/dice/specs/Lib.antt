pub mod Grids
pub mod Normals
pub mod Placed
