pub mod Tables
pub mod Walks
pub mod Refusing
pub mod Effects
pub mod Steps
pub mod Events
pub mod SessionW
