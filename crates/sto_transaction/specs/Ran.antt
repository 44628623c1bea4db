-- What a run of one transaction on an idle pass ensures.
use Rattle.std.specs.Prelude.{◌≡◌, ◌≤◌, ◌<◌, ◌⊎◌, ℕ, ◌+◌, List, [], ◌∷◌, ◌++◌, length, Bool, true, false, if◌then◌else◌}
use Rattle.sto_model.specs.Run.{Behaviour}
use Rattle.sto_type.specs.Meaning.{Meaning}
use Rattle.sto_core.specs.declared.view.Entry.{Entry}
use Rattle.sto_core.specs.declared.view.View.{View}
use Rattle.sto_core.specs.Lists.{Among}
use Rattle.sto_history.specs.Records.{TransactionPlace, Record}
use Rattle.sto_history.specs.Counted.{aborted_times, finished_places}
use Rattle.sto_history.specs.Added.{HasAdded}
use Rattle.sto_history.specs.Trying.{AreFound}
use Rattle.sto_transaction.specs.Resting.{IsAtRest}

-- from the view v to the view w, on words with so many passes, a transaction that does f was run with so many tries. It has
-- ended, or all its tries were aborted
pub record HasRun (m : Meaning) (sizes : List ℕ) (tries passes : ℕ) (v w : View) (f : Behaviour) (place : TransactionPlace) (before later : List Record) (ended : Bool) : Type 0 where
  pub new : List Record
  pub whole : later ≡ before ++ new
  pub added : HasAdded m tries v w f place new
  -- a record for each start, in their order, each aborted one with its finding under the number of its start
  pub starts : w.starts ≡ v.starts + length new
  pub found : AreFound w (v.starts + 1) new
  pub kept : (e : Entry) → Among e v.entries → Among e w.entries
  -- the last record is not aborted, and one try at least was left for it; or all are, and are as many as the tries
  pub ends : finished_places new ≡ (if ended then place ∷ [] else [])
  pub spare : ended ≡ true → aborted_times place new < tries
  pub used : ended ≡ false → aborted_times place new ≡ tries
  pub rests : IsAtRest m sizes w
  pub draws : v.draws ≤ w.draws + tries
  -- beside no other pass it ends at once
  pub alone : passes ≡ 1 → (ended ≡ true) × (aborted_times place new ≡ 0)

-- memory was wanting in such a run: the records that it added stay, all of aborted attempts, and the pass is at rest. The attempt
-- that met it has no record, and no entry; it may have begun
pub record HasBroken (m : Meaning) (sizes : List ℕ) (tries : ℕ) (v w : View) (f : Behaviour) (place : TransactionPlace) (before later : List Record) : Type 0 where
  pub new : List Record
  pub whole : later ≡ before ++ new
  pub added : HasAdded m tries v w f place new
  pub aborted : aborted_times place new ≡ length new
  pub starts : (w.starts ≡ v.starts + length new) ⊎ (w.starts ≡ v.starts + length new + 1)
  pub found : AreFound w (v.starts + 1) new
  pub kept : (e : Entry) → Among e v.entries → Among e w.entries
  pub rests : IsAtRest m sizes w
  pub draws : v.draws ≤ w.draws + tries
