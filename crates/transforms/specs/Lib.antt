pub mod Field
pub mod Raster
pub mod Matrix
pub mod Map
pub mod Rotation
pub mod Concat
pub mod Laws
