pub mod Walks
pub mod Listed
pub mod Search
pub mod SmallestFound
pub mod Ends
pub mod Answers
