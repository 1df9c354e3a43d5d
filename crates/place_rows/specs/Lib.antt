pub mod Banks
pub mod Layout
