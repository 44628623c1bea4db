pub mod Counter
pub mod Once
