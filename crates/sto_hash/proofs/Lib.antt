pub mod Plans
pub mod Loops
pub mod Pairs
