pub mod Apart
pub mod Booked
