pub mod Callers
pub mod Entered
pub mod Ended
