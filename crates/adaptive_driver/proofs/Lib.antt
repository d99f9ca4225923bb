pub mod Renewed
pub mod Course
