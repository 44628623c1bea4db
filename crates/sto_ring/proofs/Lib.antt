pub mod AtEnds
pub mod Among
pub mod Refutations
