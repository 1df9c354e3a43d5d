mod Blocks
mod ExprLevels
pub mod ExprTexts
pub mod FileTexts
pub mod FrontNames
pub mod Fronts
pub mod Good
mod Never
mod StmtTexts
