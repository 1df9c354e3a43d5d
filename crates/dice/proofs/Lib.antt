pub mod Directions
pub mod Grids
