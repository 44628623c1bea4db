mod History
mod WholeAttempt
mod Records
pub mod Entries
pub mod Words
pub mod Whole
pub mod Ones
pub mod SplitSays
