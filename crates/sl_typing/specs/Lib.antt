pub mod Assigned
pub mod Stmts
pub mod Functions
pub mod Measures
pub mod Views
pub mod ReturnExamples
