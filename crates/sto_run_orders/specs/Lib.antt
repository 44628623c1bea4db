pub mod Reports
pub mod Ready
pub mod Texts
pub mod Asked
pub use Rattle.sto_lang.specs.Sound
pub use Rattle.sto_lang.specs.Views
pub use Rattle.sto_run.specs.Stepped
pub use Rattle.sto_orders.specs.Outcomes
pub use Rattle.sto_orders.specs.Causes
pub use Rattle.sto_question.specs.Questions
pub use Rattle.sto_question.specs.Views as QuestionViews
