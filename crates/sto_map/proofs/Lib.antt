pub mod Looks
pub mod Removed
pub mod Walks
pub mod Added
pub mod Listings
pub mod Planned
pub mod Refutations
