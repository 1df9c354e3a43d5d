pub mod Lights
pub mod Choices
pub mod Looks
pub mod Bases
pub mod Faces
