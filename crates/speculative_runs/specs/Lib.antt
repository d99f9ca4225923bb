pub mod Told
pub mod Driven
pub mod Speculated
pub mod Replayed
pub mod Unsquashed
