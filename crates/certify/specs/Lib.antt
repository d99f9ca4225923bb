pub mod Answers
pub mod Parts
pub mod Ways
pub mod Found
