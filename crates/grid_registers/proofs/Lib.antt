pub mod Ranks
pub mod Filled
pub mod Operands
pub mod Writes
pub mod Parts
pub mod Entries
pub mod LookUps
