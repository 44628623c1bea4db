-- What reports in a form tell.
use Rattle.std.specs.Prelude.{◌≡◌, ℕ, List, [], Bool, if◌then◌else◌}
use Rattle.sto_lang.specs.Scripts.{File}
use Rattle.sto_report_spec.specs.declared.form.ReportForm.{ReportForm}
use Rattle.sto_report_spec.specs.declared.form.ReportForm.TheVariants.{Text, Json}
use Rattle.sto_report_spec.specs.Orders.{TransactionPlace}
use Rattle.sto_report_spec.specs.Aborts.{Abort}
use Rattle.sto_report_spec.specs.Named.{order_named}
use Rattle.sto_report_spec.specs.NamedAborts.{aborts_named}
use Rattle.sto_report_spec.specs.NamedJson.{json_order_named, json_aborts_named}
use Rattle.sto_report_spec.specs.Lawful.{made_in}
use Rattle.sto_run.specs.Alone.{all_places}

-- the form of the report that is asked for
abbrev pub form_for : Bool → ReportForm
form_for json = if json then Json else Text

-- the aborted attempts that a report in a form names
abbrev pub aborts_told : ReportForm → List (List ℕ) → List ℕ → List Abort
aborts_told Text names text = aborts_named names text
aborts_told Json names text = json_aborts_named names text

-- the order that it names
abbrev pub order_told : ReportForm → List (List ℕ) → List ℕ → List TransactionPlace
order_told Text names text = order_named names text
order_told Json names text = json_order_named names text

-- the one report of a run beside which nothing runs: of all transactions in rising thread and then position, with no aborted attempt
pub record IsAlone (form : ReportForm) (file : File) (text : List ℕ) : Type 0 where
  pub order : order_told form file.names text ≡ all_places file
  pub none : aborts_told form file.names text ≡ []
  pub report : text ≡ made_in form file (all_places file) []
