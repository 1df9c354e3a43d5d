pub mod Passing
pub mod Results
pub mod Bounded
pub mod Over
pub mod Dicing
pub mod ClosingPlaces
