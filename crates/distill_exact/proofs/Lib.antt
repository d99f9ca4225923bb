pub mod Counts
pub mod Rules
pub mod Run
pub mod Exact
pub mod Images
pub mod Lists
mod Worked
