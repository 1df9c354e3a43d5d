pub mod ScopeView
pub mod Signals
pub mod Constant
