pub mod Local
pub mod Registers
pub mod Writes
pub mod Worked
pub mod Tasks
pub mod Bounded
