pub mod Cubics
pub mod Curves
pub mod Fractions
pub mod Isolines
pub mod Rationals
pub mod Spans
