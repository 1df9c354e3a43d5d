pub mod Ring
pub mod Floor
pub mod Weights
pub mod Sat
pub mod Root
mod PowerTable
mod LogBits
pub mod Bounds
pub mod Logs
pub mod Exps
pub mod Units
pub mod Products
pub mod Texts
pub mod Mixes
pub mod Blossoms
pub mod Tensors
pub mod Fits
pub mod LastPlaces
pub mod Around
pub mod Decimals
pub mod DigitLemmas
pub mod DecimalTexts
