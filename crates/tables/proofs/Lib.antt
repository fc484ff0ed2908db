pub mod Products
pub mod Tabulated
pub mod Stored
pub mod Viewing
pub mod MarkWalks
pub mod OneToOne
pub mod Memories
pub mod Walk
