pub mod Reading
pub mod Expressions
pub mod Parsing
pub mod Rows
pub mod Boxes
pub mod Examples
