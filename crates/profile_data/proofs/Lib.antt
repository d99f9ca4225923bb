pub mod Lookup
pub mod Appended
pub mod Rows
pub mod Whole
pub mod Worked
