pub mod Bare
pub mod Grammatical
pub mod Laws
pub mod Examples
