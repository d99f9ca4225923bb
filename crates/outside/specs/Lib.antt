pub mod Answers
pub mod Files
pub mod Schedule
pub mod Seen
