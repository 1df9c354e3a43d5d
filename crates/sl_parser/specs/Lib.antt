pub mod Statements
pub mod Boxes
pub mod Naming
pub mod Files
pub mod Parsed
pub mod Spelled
pub mod Examples
