pub mod Draws
pub mod Generated
pub use Rattle.sto_lang.specs.Sound
pub use Rattle.sto_lang.specs.Statements
pub use Rattle.sto_lang.specs.Views
pub use Rattle.sto_write.specs.Texts
