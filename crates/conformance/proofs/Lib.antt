pub mod Entries
pub mod Words
mod Answering
