pub mod Cached
pub mod Same
pub mod Gathered
pub mod Refutations
pub mod CommitLists
