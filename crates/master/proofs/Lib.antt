pub mod Targets
pub mod Words
pub mod Events
pub mod Notes
pub mod Registers
