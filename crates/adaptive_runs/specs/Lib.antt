pub mod Adaptive
pub mod Laws
pub mod Rows
