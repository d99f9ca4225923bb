pub mod Keeps
pub mod Worlds
pub mod Calls
pub mod Bounds
pub mod Gaps
