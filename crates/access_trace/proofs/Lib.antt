pub mod Places
mod Marks
