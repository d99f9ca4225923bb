pub mod Tracked
pub mod Clean
pub mod Checked
