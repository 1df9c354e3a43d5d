pub mod Collected
pub mod Compiled
pub mod CoreClasses
pub mod CoreLights
