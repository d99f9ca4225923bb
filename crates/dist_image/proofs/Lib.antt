pub mod Search
pub mod KeySearch
mod Counted
mod Entries
mod Premises
mod Headers
mod Tables
mod Whole
