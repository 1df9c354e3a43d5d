pub mod Ways
pub mod WayLaws
pub mod Moments
pub mod Closing
pub mod MovingBoxes
pub mod MovingLaws
