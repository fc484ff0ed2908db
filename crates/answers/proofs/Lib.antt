pub mod Tests
pub mod Tells
pub mod Deciding
pub mod Saying
