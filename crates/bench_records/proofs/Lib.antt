pub mod Taking
pub mod Wording
pub mod Unique
