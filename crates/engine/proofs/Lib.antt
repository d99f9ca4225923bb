-- Lemmas of the engine: sets, lists of tasks, the task of a slave, anchors, the events of the master and of the slaves, commits, events that find nothing to do, exchanged images, and what is kept.
pub mod Sets
pub mod Lists
pub mod Turns
pub mod Anchors
pub mod Masters
pub mod Runs
pub mod Commits
pub mod Rests
pub mod Exchanged
pub mod Kept
