pub mod Lists
mod Paths
pub mod Trees
