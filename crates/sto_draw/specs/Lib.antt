pub mod Scenes
pub mod Drawn
