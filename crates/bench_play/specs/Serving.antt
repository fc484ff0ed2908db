-- What the contracts of functions inside say. What is promised to a caller names none of it.
pub mod Answers
