pub mod Turning
pub mod Adding
pub mod LostUpdate
pub mod LockedOut
