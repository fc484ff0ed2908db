pub mod CameFirst
pub mod CommonObject
