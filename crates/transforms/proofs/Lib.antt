pub mod Between
pub mod Pairs
pub mod Scales
pub mod Signs
pub mod Orders
pub mod Products
pub mod Quarters
pub mod Adjugate
