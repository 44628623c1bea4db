pub mod Finished
pub mod Working
pub mod Merged
pub mod Meanings
pub mod Headline
