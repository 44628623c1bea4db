pub mod Questions
pub mod Views
pub mod Readings
pub mod FaultTexts
pub use Rattle.sto_syntax.specs.Lines
pub use Rattle.sto_lang.specs.Views as Files
pub use Rattle.sto_report_spec.specs.Report
