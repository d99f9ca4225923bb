pub mod Loop
pub mod Rising
pub mod Numbers
pub mod Targets
pub mod Sizes
