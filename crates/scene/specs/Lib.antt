pub mod Kinds
pub mod Settings
pub mod Scene
pub mod Seats
