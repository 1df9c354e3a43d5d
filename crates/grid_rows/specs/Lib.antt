pub mod Parameters
pub mod Rows
pub mod Wanted
pub mod Given
