pub mod BoundedLights
mod Words
mod Runs
pub mod LightRuns
