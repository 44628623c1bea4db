-- The records that a pass has made so far.
use Rattle.std.specs.Prelude.{◌≤◌, ℕ, List}
use Rattle.std.specs.List.{All}
use Rattle.sto_lang.specs.Scripts.{File}
use Rattle.sto_type.specs.Meaning.{Meaning}
use Rattle.sto_core.specs.declared.view.View.{View}
use Rattle.sto_report_spec.specs.Orders.{TransactionPlace}
use Rattle.sto_history.specs.Records.{Record}
use Rattle.sto_history.specs.Counted.{InThreads, aborted_times}
use Rattle.sto_serializability.specs.Finished.{IsRecord, HandsBack}

-- records that a pass has made so far, all told of its view
pub record AreSoFar (m : Meaning) (file : File) (tries : ℕ) (v : View) (rs : List Record) : Type 0 where
  pub threads : InThreads rs
  pub few : (place : TransactionPlace) → aborted_times place rs ≤ tries
  pub handed : HandsBack tries rs
  pub each : All (IsRecord m file v) rs
