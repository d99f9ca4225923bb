pub mod Images
pub mod Shown
pub mod Counted
pub mod Whole
