pub mod Executable
pub mod Header
pub mod Refusal
pub mod Accepted
