pub mod Rows
pub mod TypedRows
mod NodeTypes
pub mod TypedShown
pub mod Variables
