pub mod Worlds
pub mod Plans
