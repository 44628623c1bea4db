pub mod Elements
pub mod Told
pub mod Arrows
pub mod Places
pub mod Views
pub mod Lanes
pub mod Attempts
pub mod Pictures
