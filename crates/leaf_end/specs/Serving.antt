-- What the contracts of the leaves say beside the rules. No promise of an entry point names any of it.
pub mod Standings
pub mod Ends
