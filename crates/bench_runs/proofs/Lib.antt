pub mod Turns
pub mod EveryRun
pub mod SessionW
