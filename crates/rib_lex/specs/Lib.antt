pub mod Bytes
pub mod Strings
pub mod StringAnswers
pub mod Numbers
pub mod Found
pub mod Tokens
pub mod Joined
pub mod Spelling
