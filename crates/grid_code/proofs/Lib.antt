pub mod Dead
pub mod Asleep
pub mod Then
pub mod Found
pub mod Both
pub mod ValidThen
pub mod Blocks
pub mod Gathered
mod Leavers
mod OwnTurns
mod Resting
