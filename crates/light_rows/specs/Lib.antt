pub mod Seen
pub mod Loops
pub mod Scopes
pub mod Shares
