pub mod Task
pub mod Laws
