pub mod Steps
pub mod Sound
pub mod Places
pub mod SaidLines
pub mod GoodLines
pub mod Lengths
pub mod ReadBack
