-- Counts of records and entries, and the order of records along a script thread.
use Rattle.std.specs.Prelude.{◌≡◌, ◌≤◌, ℕ, ◌+◌, List, [], ◌∷◌, Bool, true, ◌==◌, nat_eq, ◌&&◌, if◌then◌else◌, map, filter}
use Rattle.std.specs.List.{All}
use Rattle.sto_core.specs.declared.view.Entry.{Entry}
use Rattle.sto_core.specs.declared.view.Fate.{Fate}
use Rattle.sto_core.specs.declared.view.Fate.TheVariants.{Pending, Committed, Dropped}
use Rattle.sto_history.specs.Records.{TransactionPlace, Record, is_abort, is_finished, known_after, IsSince}

-- 1 where the fate is the commit
abbrev pub if_won : Fate → ℕ
if_won Pending = 0
if_won Committed = 1
if_won Dropped = 0

-- how many committed entries have the ticket
abbrev pub times_committed : ℕ → List Entry → ℕ
times_committed t [] = 0
times_committed t (e ∷ es) = (if nat_eq t e.ticket then if_won e.fate else 0) + times_committed t es

-- a later record of the same script thread: its position is not lower, it is the first that is not aborted where the position is the
-- same, and it began once all was known that the earlier one told
pub record Follows (r s : Record) : Type 0 where
  pub position : r.place.1 ≤ s.place.1
  pub again : r.place.1 ≡ s.place.1 → is_abort r.verdict ≡ true
  pub since : IsSince (known_after r.verdict) s.verdict

-- each record follows all earlier ones of its thread
abbrev pub InThreads : List Record → Type 0
InThreads [] = Unit {0}
InThreads (r ∷ rs) = All (λ s. r.place.0 ≡ s.place.0 → Follows r s) rs × InThreads rs

-- the transactions that ended, in the order of the records
abbrev pub finished_places : List Record → List TransactionPlace
finished_places rs = map (λ r. r.place) (filter is_finished rs)

-- how many aborted attempts a transaction has
abbrev pub aborted_times : TransactionPlace → List Record → ℕ
aborted_times place [] = 0
aborted_times place (r ∷ rs) =
    (if (r.place.0 == place.0) && ((r.place.1 == place.1) && is_abort r.verdict) then 1 else 0) + aborted_times place rs
