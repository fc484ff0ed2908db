pub mod Places
pub mod Views
pub mod Serving
