pub mod Pages
pub mod Plain
