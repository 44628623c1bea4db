pub mod Lists
pub mod Unlawful
pub mod Lines
pub mod Unrun
pub mod Closings
pub mod TwoWorkers
pub mod Untold
pub mod UnlawfulAborts
