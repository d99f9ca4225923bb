pub mod Values
pub mod Bytes
pub mod Reading
pub mod Found
pub mod Sights
pub mod Counted
