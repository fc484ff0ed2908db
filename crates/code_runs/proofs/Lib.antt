pub mod Chains
pub mod Lent
