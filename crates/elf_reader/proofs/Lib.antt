pub mod Headers
pub mod Rows
pub mod Faults
pub mod Parts
pub mod Accepted
pub mod Memory
pub mod Small
