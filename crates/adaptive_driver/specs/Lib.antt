pub mod Adapted
