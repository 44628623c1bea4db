-- What a run of one transaction adds to the records of its pass.
use Rattle.std.specs.Prelude.{◌≡◌, ◌≤◌, ◌⊎◌, ℕ, ◌+◌, List}
use Rattle.std.specs.List.{All}
use Rattle.sto_model.specs.Run.{Behaviour}
use Rattle.sto_type.specs.Meaning.{Meaning}
use Rattle.sto_core.specs.declared.view.Entry.{Entry}
use Rattle.sto_core.specs.declared.view.Claim.{Claim}
use Rattle.sto_core.specs.declared.view.Wrote.{Wrote as WroteClaim}
use Rattle.sto_core.specs.declared.view.Finding.{Finding}
use Rattle.sto_core.specs.declared.view.Fate.TheVariants.{Committed}
use Rattle.sto_core.specs.declared.view.View.{View}
use Rattle.sto_core.specs.Lists.{Among}
use Rattle.sto_history.specs.Records.{TransactionPlace, Record, IsSince, IsAbove, times_written}
use Rattle.sto_history.specs.Told.{IsTold}
use Rattle.sto_history.specs.Counted.{InThreads, times_committed, aborted_times}

-- what the view v knows, w knows
pub record Grows (v w : View) : Type 0 where
  pub at : v.at ≤ w.at
  pub entries : (e : Entry) → Among e v.entries → e.fate ≡ Committed → Among e w.entries
  pub claims : (c : Claim) → Among c v.claims → Among c w.claims
  pub wrote : (c : WroteClaim) → Among c v.wrote → Among c w.wrote
  pub findings : (f : Finding) → Among f v.findings → Among f w.findings

-- the number is that of a committed entry
pub record IsOwnTicket (v : View) (n : ℕ) : Type 0 where
  pub entry : Entry
  pub there : Among entry v.entries
  pub ticket : entry.ticket ≡ n

-- the number is that of a writer that the view knows of
pub record IsSeenTicket (v : View) (n : ℕ) : Type 0 where
  pub claim : WroteClaim
  pub there : Among claim v.wrote
  pub ticket : claim.ticket ≡ n

-- the view knows the number of the history: it is at most its clock, or the ticket of an entry or of a writer that it knows of
abbrev pub IsKnown : View → ℕ → Type 0
IsKnown v n = (n ≤ v.at) ⊎ IsOwnTicket v n ⊎ IsSeenTicket v n

-- a record of the place that is told of the view w after it, and that began after all that the view v before it knew; the ticket of a
-- writer is above the clock that w has at the end
pub record IsAdded (m : Meaning) (v w : View) (f : Behaviour) (place : TransactionPlace) (r : Record) : Type 0 where
  pub placed : r.place ≡ place
  pub told : IsTold m w f r.replies r.verdict
  pub since : (n : ℕ) → IsKnown v n → IsSince n r.verdict
  pub above : IsAbove w.at r.verdict

-- a run of the transaction at a place, which does f, from the view v to the view w, added these records
pub record HasAdded (m : Meaning) (tries : ℕ) (v w : View) (f : Behaviour) (place : TransactionPlace) (new : List Record) : Type 0 where
  pub grows : Grows v w
  pub entries : (t : ℕ) → times_committed t w.entries ≡ times_committed t v.entries + times_written t new
  pub each : All (IsAdded m v w f place) new
  pub threads : InThreads new
  pub few : aborted_times place new ≤ tries
