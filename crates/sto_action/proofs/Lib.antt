pub mod Counts
pub mod Causes
pub mod Tried
pub mod Led
pub mod Alone
pub mod Following
pub mod Snapshots
pub mod Stepping
