pub mod Examples
pub use Rattle.sto_lang.specs.Objects
pub use Rattle.sto_lang.specs.Sizes
pub use Rattle.sto_lang.specs.Taken
pub use Rattle.sto_lang.specs.Views
pub use Rattle.sto_lang.specs.Written
pub use Rattle.sto_journal.specs.Journals
