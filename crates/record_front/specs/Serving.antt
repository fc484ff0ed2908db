-- What the contracts of the front and its parts say beside the layout. No promise of an entry point names any of it.
pub mod Filled
