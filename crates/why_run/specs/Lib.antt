pub mod Verdict
pub mod Answers
pub mod Run
