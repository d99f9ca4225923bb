pub mod Marks
pub mod Sights
pub mod Watched
pub mod Places
pub mod Shown
pub mod Passes
pub mod Verdicts
