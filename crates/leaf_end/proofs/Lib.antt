pub mod Standings
pub mod Spoils
pub mod EndClears
pub mod EndTurns
