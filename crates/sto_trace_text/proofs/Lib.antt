pub mod Places
pub mod Silent
pub mod Hearing
pub mod Led
pub mod Floats
pub mod Calls
pub mod Ascii
pub mod JsonAscii
