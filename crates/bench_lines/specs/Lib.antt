pub mod Lines
pub mod Serving
