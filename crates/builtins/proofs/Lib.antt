pub mod Shaped
pub mod Texts
pub mod Places
mod Noises
