mod Directories
pub mod Puts
mod Pages
