mod Sums
mod Bounded
pub mod Scopes
mod Lengths
pub mod Leaves
pub mod Parts
