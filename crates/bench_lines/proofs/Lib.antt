pub mod Digits
pub mod Making
pub mod Unique
