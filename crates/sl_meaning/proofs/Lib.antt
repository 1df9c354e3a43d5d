pub mod CoreRows
pub mod CoreMeaning
pub mod CoreGridMeaning
