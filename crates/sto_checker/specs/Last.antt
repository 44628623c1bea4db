-- The last of the abort lines that were read.
use Rattle.std.specs.Prelude.{◌≡◌, ◌⊎◌, ℕ, ◌<◌, ◌≤◌, List, [], ◌∷◌, ◌++◌, Option, None, Some}
use Rattle.sto_report_spec.specs.Aborts.{Abort}
use Rattle.sto_report_spec.specs.LawfulAborts.{IsSorted, HandsBack, count_at, known_at_end}
use Rattle.sto_checker.specs.declared.last.LastAbort.{LastAbort}
use Rattle.sto_checker.specs.declared.transaction.TransactionPlace.{TransactionPlace}
use Rattle.sto_checker.specs.Reading.{place_of}

-- the last of some aborted attempts, with the number of those of its transaction
pub record IsLast (tries : ℕ) (all : List Abort) (last : LastAbort) : Type 0 where
  pub before : List Abort
  pub abort : Abort
  pub are : all ≡ before ++ abort ∷ []
  pub place : abort.place ≡ place_of last.at
  pub known : known_at_end abort ≡ last.known
  pub count : count_at abort.place all ≡ last.count
  pub handed : HandsBack tries all
  pub sorted : IsSorted all

abbrev pub IsLastOf : ℕ → List Abort → Option LastAbort → Type 0
IsLastOf tries all None = all ≡ []
IsLastOf tries all (Some last) = IsLast tries all last

-- a transaction may stand behind the last line: one of a later thread, or a later one of its thread, where its own has not used up the
-- tries
abbrev pub MayFollow : LastAbort → TransactionPlace → ℕ → Type 0
MayFollow last at tries =
    (last.at.thread < at.thread) ⊎ ((last.at.thread ≡ at.thread) × (last.at.position < at.position) × (last.count ≡ tries → ⊥))

-- one more may follow, and is the last then; none is where it may not
abbrev pub IsFollowed : List Abort → Abort → ℕ → Option LastAbort → Type 0
IsFollowed before a tries None = count_at a.place (before ++ a ∷ []) ≤ tries → HandsBack tries (before ++ a ∷ []) → IsSorted (before ++ a ∷ []) → ⊥
IsFollowed before a tries (Some last) = (count_at a.place (before ++ a ∷ []) ≤ tries) × IsSorted (before ++ a ∷ []) × IsLast tries (before ++ a ∷ []) last
