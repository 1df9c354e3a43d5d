mod Words
mod Headers
mod Squares
pub mod Bucketry
mod Runs
mod Places
mod Standing
mod Joins
mod Divided
mod Pictured
mod Rows
