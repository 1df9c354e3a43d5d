pub mod Sums
pub mod Readings
pub mod Sizes
pub mod Fitting
pub mod Seen
pub mod Stacks
pub mod Culls
pub mod Meetings
