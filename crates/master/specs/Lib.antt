pub mod Word
pub mod Shown
