-- What must be true of the records of a finished run, over the view of the pass that has gathered all others.
use Rattle.std.specs.Prelude.{◌≡◌, ◌≤◌, ◌<◌, ℕ, ◌+◌, List, [], ◌∷◌, Bool, true, ◌==◌, nat_eq, ◌&&◌, if◌then◌else◌, map, filter, Some}
use Rattle.std.specs.List.{All}
use Rattle.sto_lang.specs.Scripts.{Script, File}
use Rattle.sto_script.specs.Meaning.{meaning_of}
use Rattle.sto_type.specs.Meaning.{Meaning}
use Rattle.sto_core.specs.declared.view.Entry.{Entry}
use Rattle.sto_core.specs.declared.view.Fate.{Fate}
use Rattle.sto_core.specs.declared.view.Fate.TheVariants.{Pending, Committed, Dropped}
use Rattle.sto_core.specs.declared.view.View.{View}
use Rattle.sto_report_spec.specs.Orders.{TransactionPlace, transaction_at, IsOrder}
use Rattle.sto_history.specs.Records.{Verdict, Record, is_abort, is_finished, known_after, IsSince, times_written}
use Rattle.sto_history.specs.Counted.{times_committed, InThreads, aborted_times, finished_places}
use Rattle.sto_history.specs.Told.{IsTold}

-- a record of a transaction of the file, and what is told of it
pub record IsRecord (m : Meaning) (file : File) (v : View) (r : Record) : Type 0 where
  pub script : Script
  pub transaction : transaction_at file r.place ≡ Some script
  pub told : IsTold m v (meaning_of script) r.replies r.verdict

-- a transaction that used up its tries is handed back with all later ones of its thread, and of these no attempt is aborted
abbrev pub HandsBack : ℕ → List Record → Type 0
HandsBack tries rs = (p q : TransactionPlace) → p.0 ≡ q.0 → p.1 < q.1 → aborted_times p rs ≡ tries → aborted_times q rs ≡ 0

-- the records are those of a finished run of the file with so many tries
pub record AreFinished (m : Meaning) (file : File) (tries : ℕ) (v : View) (rs : List Record) : Type 0 where
  -- each transaction of the file has one record that is not aborted, and those of a thread stand in rising position
  pub order : IsOrder file (finished_places rs)
  pub threads : InThreads rs
  pub few : (place : TransactionPlace) → aborted_times place rs ≤ tries
  pub handed : HandsBack tries rs
  -- the committed entries of the view are those of the records that wrote
  pub tickets : (t : ℕ) → times_written t rs ≡ times_committed t v.entries
  pub each : All (IsRecord m file v) rs
