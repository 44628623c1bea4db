pub mod Reading
pub mod Exclusive
pub mod Counted
pub mod Lines
pub mod Refusals
pub mod Printed
pub mod Helped
