pub mod Cells
pub mod Bytes
pub mod Machine
pub mod Run
pub mod Task
pub mod Differ
pub mod Seen
