pub mod Values
pub mod Effect
pub mod Prints
pub mod Machine
pub mod Calls
pub mod Start
pub mod Programs
pub mod Bounded
