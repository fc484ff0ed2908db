-- What contracts of inner functions and laws say beside the layout. No promise of an entry point names any of it.
pub mod Beside
pub mod Fitting
