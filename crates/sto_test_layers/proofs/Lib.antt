pub mod Additions
pub mod Declared
pub mod Ended
pub mod Passes
