-- Answers, with their statuses and their lines.
pub mod Answer
