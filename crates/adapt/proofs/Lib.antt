pub mod Made
pub mod Aligned
pub mod Laws
pub mod Runs
