pub mod Profile
pub mod Keyed
pub mod Bytes
pub mod Reading
