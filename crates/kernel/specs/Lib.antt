pub mod Border
pub mod Shown
