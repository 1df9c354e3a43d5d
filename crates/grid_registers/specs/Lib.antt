pub mod Rooms
pub mod Held
pub mod Frames
pub mod Sources
pub mod Operands
pub mod LookUps
