pub mod Sold
pub mod Paid
