pub mod Entries
pub mod Whole
pub mod Told
pub mod Known
pub mod Loading
pub mod Few
pub mod Listing
pub mod Counting
