pub mod Events
pub mod Texts
pub mod Json
pub mod Named
pub mod Bodies
pub mod Lines
pub use Rattle.sto_lang.specs.Views
pub use Rattle.sto_model.specs.PlainReplies
