-- What runs lead to, each report once.
use Rattle.std.specs.Prelude.{◌≡◌, ◌+◌, ◌≤◌, ℕ, List, [], ◌∷◌, ◌++◌, length, flat_map, sum_by, count_by, Bool, true, string_bytes}
use Rattle.std.specs.List.{AllByRecursion}
use Rattle.std.specs.List.Sorted.{IsSortedByKey}
use Rattle.std.specs.Ordering.{nat_cmp}
use Rattle.std.specs.Cmp.Lexicographic.{slice_cmp}
use Rattle.std.specs.Str.{bytes_eq}
use Rattle.sto_explore.specs.Explored.{Found}
use Rattle.sto_explore.specs.declared.leg.Leg.{Leg}
use Rattle.sto_explore.specs.declared.outcome.Reported.{Reported}
use Rattle.sto_explore.specs.declared.outcome.Outcome.{Outcome}
use Rattle.sto_explore.specs.declared.outcome.Outcomes.{Outcomes}

-- whether a run leads to this report
abbrev pub leads_to : List ℕ → Found Reported → Bool
leads_to text x = bytes_eq text (string_bytes x.report.text)

-- it leads there by so many legs or more
abbrev pub NeedsAtLeast : List ℕ → ℕ → Found Reported → Type 0
NeedsAtLeast text count x = leads_to text x ≡ true → count ≤ length x.legs

-- the legs are those of a run that leads to this report: none that does has fewer, and each that does and was found before has more
pub record AreFirstFewest (xs : List (Found Reported)) (text : List ℕ) (legs : List Leg) : Type 0 where
  pub before : List (Found Reported)
  pub x : Found Reported
  pub others : List (Found Reported)
  pub among : xs ≡ before ++ x ∷ others
  pub same : x.legs ≡ legs
  pub leads : leads_to text x ≡ true
  pub more : AllByRecursion (NeedsAtLeast text (length legs + 1)) before
  pub no_fewer : AllByRecursion (NeedsAtLeast text (length legs)) others

-- an outcome of runs: as many schedules as runs lead to its report, and the legs of one of them
pub record IsOutcome (xs : List (Found Reported)) (o : Outcome) : Type 0 where
  pub schedules : o.schedules ≡ count_by (leads_to (string_bytes o.text)) xs
  pub legs : AreFirstFewest xs (string_bytes o.text) o.legs.items

-- what outcomes are ordered by: how many legs lead to them, and then the thread and the turns of each leg
abbrev pub leg_rank : Leg → List ℕ
leg_rank leg = leg.thread ∷ leg.turns ∷ []

abbrev pub rank_of : List Leg → List ℕ
rank_of legs = length legs ∷ flat_map leg_rank legs

-- those with the fewest legs come first, and of as many legs those of lower threads and then of fewer turns, leg by leg
abbrev pub AreInOrder : List Outcome → Type 0
AreInOrder outcomes = IsSortedByKey (λ o. rank_of o.legs.items) (slice_cmp nat_cmp) outcomes

-- these are the outcomes of the runs: each run leads to exactly one of them, and to each leads one. They add up to all runs
pub record AreOutcomes (xs : List (Found Reported)) (outcomes : Outcomes) : Type 0 where
  pub each : AllByRecursion (IsOutcome xs) outcomes.each.items
  pub once : AllByRecursion (λ x. count_by (λ o. leads_to (string_bytes o.text) x) outcomes.each.items ≡ 1) xs
  pub in_order : AreInOrder outcomes.each.items
  pub sum : sum_by (λ o. o.schedules) outcomes.each.items ≡ length xs
  pub schedules : outcomes.schedules ≡ length xs
  pub locked : outcomes.aborted.locked ≡ sum_by (λ x. x.report.aborted.locked) xs
  pub changed : outcomes.aborted.changed ≡ sum_by (λ x. x.report.aborted.changed) xs
