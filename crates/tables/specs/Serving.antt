-- What the contracts of stores, walks and steps on lent lists say. No promise of an entry point names any of it.
pub mod Changes
pub mod Memories
