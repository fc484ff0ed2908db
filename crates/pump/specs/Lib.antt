pub mod Held
pub mod Looks
