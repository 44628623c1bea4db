pub mod Schedules
pub mod ErrorTexts
pub use Rattle.sto_syntax.specs.Views as Words
pub use Rattle.sto_lang.specs.Sound
pub use Rattle.sto_lang.specs.Views
