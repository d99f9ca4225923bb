pub mod Spans
pub mod Shadows
