-- What only contracts of inner functions and proofs name.
pub mod Listed
