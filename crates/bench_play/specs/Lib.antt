pub mod Bench
pub mod Pieces
pub mod Turns
pub mod Deliveries
pub mod SessionW
pub mod Serving
