-- In which order transactions are run on one pass.
use Rattle.std.specs.Prelude.{◌≡◌, ◌<◌, ◌≤◌, ◌⊎◌, List, [], ◌∷◌, ◌++◌}
use Rattle.std.specs.List.{All}
use Rattle.sto_history.specs.Records.{TransactionPlace, Record, known_after, IsSince}
use Rattle.sto_history.specs.Counted.{finished_places}
use Rattle.sto_run_threads.specs.Plans.{Plan, thread_count}

-- the place is in an earlier thread than another, or at an earlier position of the same one
abbrev pub StandsBefore : TransactionPlace → TransactionPlace → Type 0
StandsBefore p q = (p.0 < q.0) ⊎ ((p.0 ≡ q.0) × (p.1 < q.1))

-- it does not stand before the other
abbrev pub StandsFrom : TransactionPlace → TransactionPlace → Type 0
StandsFrom q p = (q.0 < p.0) ⊎ ((p.0 ≡ q.0) × (q.1 ≤ p.1))

-- each stands before those after it
abbrev pub AreRising : List TransactionPlace → Type 0
AreRising [] = Unit {0}
AreRising (p ∷ ps) = All (StandsBefore p) ps × AreRising ps

-- each of the new records began once all was known that those before it told
abbrev pub AreSince : List Record → List Record → Type 0
AreSince before [] = Unit {0}
AreSince before (r ∷ new) = All (λ b. IsSince (known_after b.verdict) r.verdict) before × AreSince (before ++ r ∷ []) new

-- transactions were run one after the other, and each after those of the first records; those that ended are from the first of these
-- places on and before the other, in rising thread and then position
pub record RunsInOrder (from to : TransactionPlace) (rs later : List Record) : Type 0 where
  pub new : List Record
  pub whole : later ≡ rs ++ new
  pub since : AreSince rs new
  pub rising : AreRising (finished_places new)
  pub from_there : All (StandsFrom from) (finished_places new)
  pub to_there : All (λ p. StandsBefore p to) (finished_places new)

-- all of a plan that these records are of was run so
abbrev pub RanInTurn : Plan → List Record → Type 0
RanInTurn plan rs = RunsInOrder (0, 0) (thread_count plan, 0) [] rs
