pub mod Plans
pub mod Refutations
