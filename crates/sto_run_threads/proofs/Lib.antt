pub mod Places
pub mod Threads
pub mod Accounts
pub mod Found
pub mod Runs
pub mod Joined
mod Results
pub mod Claiming
pub mod Scripts
pub mod Pace
pub mod Gathered
pub mod Opened
pub mod Reopened
pub mod Ordered
pub mod Turns
