pub mod Folds
pub mod Extents
pub mod Distinct
pub mod Inline
pub mod Checked
pub mod InlineExamples
pub mod Sizes
pub mod Placing
