pub mod InRange
pub mod Looked
