pub mod Deeds
pub mod Noted
pub use Rattle.sto_model.specs.PlainReplies
pub use Rattle.sto_core.specs.Tells
