pub mod Stocked
