pub mod Texts
pub mod Unescaping
pub mod Steps
pub mod Joins
pub mod Spellings
pub mod Readings
