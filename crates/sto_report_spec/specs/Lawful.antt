-- Lawful reports.
use Rattle.std.specs.Prelude.{◌≡◌, ℕ, List}
use Rattle.sto_lang.specs.Scripts.{File}
use Rattle.sto_report_spec.specs.declared.form.ReportForm.{ReportForm}
use Rattle.sto_report_spec.specs.declared.form.ReportForm.TheVariants.{Text, Json}
use Rattle.sto_report_spec.specs.Orders.{TransactionPlace, IsOrder}
use Rattle.sto_report_spec.specs.Aborts.{Abort}
use Rattle.sto_report_spec.specs.Report.{report_of}
use Rattle.sto_report_spec.specs.Json.{json_of}
use Rattle.sto_report_spec.specs.Named.{order_named}
use Rattle.sto_report_spec.specs.NamedAborts.{aborts_named}
use Rattle.sto_report_spec.specs.NamedJson.{json_order_named, json_aborts_named}
use Rattle.sto_report_spec.specs.Updated.{Updating}
use Rattle.sto_report_spec.specs.LawfulAborts.{AreLawful}

-- the order that the text itself names is an order of the file, the aborted attempts that it names are lawful for that
-- order and so many tries, and the text is the report of these
pub record IsLawful (u : Updating) (file : File) (tries : ℕ) (text : List ℕ) : Type 0 where
  pub order : IsOrder file (order_named file.names text)
  pub aborts : AreLawful u file tries (order_named file.names text) (aborts_named file.names text)
  pub report : text ≡ report_of file (order_named file.names text) (aborts_named file.names text)

-- the same of a JSON report
pub record IsLawfulJson (u : Updating) (file : File) (tries : ℕ) (text : List ℕ) : Type 0 where
  pub order : IsOrder file (json_order_named file.names text)
  pub aborts : AreLawful u file tries (json_order_named file.names text) (json_aborts_named file.names text)
  pub report : text ≡ json_of file (json_order_named file.names text) (json_aborts_named file.names text)

-- the report of an order and of aborted attempts in a form
abbrev pub made_in : ReportForm → File → List TransactionPlace → List Abort → List ℕ
made_in Text file order aborts = report_of file order aborts
made_in Json file order aborts = json_of file order aborts

-- a text is a lawful report in a form
abbrev pub IsLawfulIn : ReportForm → Updating → File → ℕ → List ℕ → Type 0
IsLawfulIn Text u file tries text = IsLawful u file tries text
IsLawfulIn Json u file tries text = IsLawfulJson u file tries text
