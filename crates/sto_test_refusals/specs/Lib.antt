pub mod Texts
pub mod Runs
pub mod AbortTexts
pub mod Found
