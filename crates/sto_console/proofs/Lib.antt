pub mod ToldLemmas
pub mod Saying
pub mod Making
pub mod Reading
pub mod Scripts
pub mod Endings
pub mod Causes
pub mod Faultless
