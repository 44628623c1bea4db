-- Abort lines that were gathered.
use Rattle.std.specs.Prelude.{◌≡◌, ℕ, suc, ◌+◌, ◌<◌, ◌≤◌, List, length, take, Option, None, Some, false, slice_get}
use Rattle.std.specs.List.{list_any}
use Rattle.sto_lang.specs.Scripts.{File}
use Rattle.sto_report_spec.specs.Orders.{TransactionPlace}
use Rattle.sto_report_spec.specs.Replay.{shown}
use Rattle.sto_checker.specs.declared.past.Past.{Past}
use Rattle.sto_checker.specs.Lines.{is_state_line}
use Rattle.sto_checker.specs.Right.{total, order_in, behind}
use Rattle.sto_checker.specs.Answer.{IsRightAt, AreRight, GoesWrong}
use Rattle.sto_checker.specs.Reached.{AreObjectsRead}
use Rattle.sto_checker.specs.declared.abort.GivenAbort.{GivenAbort}
use Rattle.sto_checker.specs.Given.{IsGiven, IsHeard}

-- where the lines before it are right, the line is right exactly where the attempt heard its replies
pub record IsJudged (file : File) (tries : ℕ) (lines : List (List ℕ)) (order : List TransactionPlace) (place : ℕ) (given : GivenAbort) : Type 0 where
  pub given_is : IsGiven file order given
  pub right : AreRight file tries lines place → IsHeard file (shown file order given.told.seen) given → IsRightAt file tries lines place
  pub heard : AreRight file tries lines place → IsRightAt file tries lines place → IsHeard file (shown file order given.told.seen) given

-- those of the lines behind the journal, one after the other
abbrev pub AreJudged : File → ℕ → List (List ℕ) → List TransactionPlace → List GivenAbort → Type 0
AreJudged file tries lines order aborts = (place : ℕ) (given : GivenAbort) → slice_get aborts place ≡ Some given → IsJudged file tries lines order (total file + place) given

-- so many lines were read: those of the journal and of the abort lines
pub record AreGathered (file : File) (tries : ℕ) (lines : List (List ℕ)) (order : List TransactionPlace) (aborts : List GivenAbort) (read : ℕ) : Type 0 where
  pub judged : AreJudged file tries lines order aborts
  pub count : read ≡ total file + length aborts
  pub within : read ≤ length lines
  pub named : order ≡ order_in file (take read lines)
  pub none : list_any is_state_line (behind file (take read lines)) ≡ false

-- behind so many lines stands the line `state`; or there the report goes wrong, where they are right
abbrev pub IsEnded : File → ℕ → List (List ℕ) → Past → ℕ → ℕ → Option ℕ → Type 0
IsEnded file tries lines past gathered read None = AreRight file tries lines gathered → AreObjectsRead file tries lines past read 0
IsEnded file tries lines past gathered read (Some number) = (number ≡ suc gathered) × (AreRight file tries lines gathered → GoesWrong file tries lines gathered)
