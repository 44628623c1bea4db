pub mod Turns
pub mod Adding
pub mod LostUpdate
pub mod LockedOut
pub mod Premises
pub use Rattle.sto_lang.specs.Files
pub use Rattle.sto_report_spec.specs.Lawful
pub use Rattle.sto_serializability.specs.Meanings
