pub mod Text
pub mod Puts
pub mod Show
pub mod Events
pub mod Verdict
