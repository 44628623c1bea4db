pub mod Once
pub mod Agreeing
pub mod Over
pub mod Attempts
pub mod Telling
