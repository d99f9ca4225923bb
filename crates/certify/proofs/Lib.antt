pub mod Fitted
pub mod Earlier
pub mod Keys
pub mod Joined
pub mod Noted
pub mod Least
pub mod Firsts
