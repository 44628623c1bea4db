pub mod Stepping
pub mod Calls
pub mod Shown
pub mod Asked
pub mod Operations
pub mod Opening
pub mod Reopened
pub mod Walking
