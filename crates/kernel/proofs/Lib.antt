pub mod Said
pub mod Words
