pub mod Parting
pub mod Agreed
pub mod Tied
pub mod Waited
pub mod Closing
pub mod Led
pub mod Refutations
