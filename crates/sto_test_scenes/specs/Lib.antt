pub mod Scenes
pub use Rattle.sto_core.specs.Closed
