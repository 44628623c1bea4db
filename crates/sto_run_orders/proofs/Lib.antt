pub mod Reporting
pub mod Apart
pub mod Listing
pub mod Counts
pub mod ByState
