pub mod Growing
pub mod Arrows
pub mod Refused
