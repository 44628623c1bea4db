-- What the attempts of one transaction so far, all aborted but perhaps the last one, have added to what their pass knows.
use Rattle.std.specs.Prelude.{◌≡◌, ◌≤◌, ◌+◌, ℕ, List, [], ◌∷◌, length, true}
use Rattle.std.specs.List.{All}
use Rattle.sto_model.specs.Run.{Behaviour}
use Rattle.sto_type.specs.Meaning.{Meaning}
use Rattle.sto_core.specs.declared.view.Entry.{Entry}
use Rattle.sto_core.specs.declared.view.View.{View}
use Rattle.sto_core.specs.Lists.{Among}
use Rattle.sto_history.specs.Records.{TransactionPlace, Record, times_written, is_abort}
use Rattle.sto_history.specs.Told.{IsFound}
use Rattle.sto_history.specs.Counted.{InThreads, times_committed}
use Rattle.sto_history.specs.Added.{Grows, IsKnown, IsAdded}

-- these are the records of one start after the other, the first one of this number: each aborted attempt has its finding, under the
-- number of its own start
abbrev pub AreFound : View → ℕ → List Record → Type 0
AreFound w start [] = Unit {0}
AreFound w start (r ∷ rs) = IsFound w start r.verdict × AreFound w (start + 1) rs

-- these records were added between the views v and w
pub record HasMade (m : Meaning) (v w : View) (f : Behaviour) (place : TransactionPlace) (new : List Record) : Type 0 where
  pub grows : Grows v w
  pub known : (k : ℕ) → IsKnown v k → IsKnown w k
  pub entries : (t : ℕ) → times_committed t w.entries ≡ times_committed t v.entries + times_written t new
  pub each : All (IsAdded m v w f place) new
  pub threads : InThreads new
  pub starts : w.starts ≡ v.starts + length new
  pub draws : v.draws ≤ w.draws + length new
  pub found : AreFound w (v.starts + 1) new
  pub kept : (e : Entry) → Among e v.entries → Among e w.entries

-- all of them are aborted
abbrev pub AreAborted : List Record → Type 0
AreAborted new = All (λ (r : Record). is_abort r.verdict ≡ true) new
