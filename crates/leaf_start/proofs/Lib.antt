pub mod DeclarationRules
pub mod StartLoops
pub mod Started
