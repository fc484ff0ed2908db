pub mod SessionW
pub mod Turns
pub mod Certain
pub mod Writing
pub mod PieceTurns
pub mod Joining
pub mod Waiting
pub mod Unique
