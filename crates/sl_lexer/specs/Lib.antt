pub mod Bytes
pub mod Numbers
pub mod Words
pub mod Found
pub mod StringBytes
pub mod Tokens
pub mod Examples
