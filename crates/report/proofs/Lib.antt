pub mod Gained
pub mod Texts
pub mod Worked
