pub mod Exchanged
pub mod After
pub mod Rounds
pub mod Near
pub mod Stops
