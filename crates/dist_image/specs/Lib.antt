pub mod Image
pub mod Bytes
pub mod Reading
