pub mod Numbers
pub mod Rows
pub mod Walks
pub mod Grammars
pub mod Refused
