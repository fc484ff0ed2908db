pub mod Histories
pub mod Runs
pub mod LoneRun
pub mod Demands
pub mod Companions
