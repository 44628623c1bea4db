-- Runs gathered by their reports, as the code has them.
use Rattle.std.specs.Prelude.{◌≡◌, ◌+◌, ℕ, List, length, map, sum_by, count_by, false, nat_lt, string_bytes, if◌then◌else◌, Option, None, Some}
use Rattle.std.specs.List.{AllByRecursion}
use Rattle.std.specs.List.Sorted.{IsStrictlySortedBy}
use Rattle.std.specs.Ordering.{nat_cmp}
use Rattle.std.specs.Cmp.Lexicographic.{slice_cmp}
use Rattle.std.specs.Str.{bytes_eq}
use Rattle.std.specs.BTreeMap.{BTreeMap, get_by_text}
use Rattle.std.specs.declared.string.String.{String}
use Rattle.std.specs.declared.alloc.Global.{Global}
use Rattle.sto_explore.specs.Explored.{Found}
use Rattle.sto_explore.specs.declared.leg.Leg.{Leg}
use Rattle.sto_explore.specs.Outcomes.{leads_to, AreFirstFewest}
use Rattle.sto_explore.specs.declared.outcome.Reported.{Reported}
use Rattle.sto_explore.specs.declared.outcome.Outcome.{Outcome}
use Rattle.sto_explore.specs.declared.way.Way.{Way}
use Rattle.sto_explore.specs.declared.tally.Tally.{Tally}

-- a way for each report
abbrev pub Ways : Type 0
Ways = BTreeMap (String Global) Way

-- the legs that are kept of two: the later ones only where they are fewer
abbrev pub fewer_of : List Leg → List Leg → List Leg
fewer_of legs later = if nat_lt (length later) (length legs) then later else legs

-- a way with one schedule more
pub record HasOneMore (old : Way) (later : List Leg) (new : Way) : Type 0 where
  pub schedules : new.schedules ≡ old.schedules + 1
  pub legs : new.legs.items ≡ fewer_of old.legs.items later

-- the same where there may have been none
abbrev pub IsOneMore : Option Way → List Leg → Option Way → Type 0
IsOneMore old legs None = ⊥
IsOneMore None legs (Some new) = (new.schedules ≡ 1) × (new.legs.items ≡ legs)
IsOneMore (Some old) legs (Some new) = HasOneMore old legs new

-- one schedule more leads to a report
pub record HasOneMoreWay (old : Ways) (text : List ℕ) (legs : List Leg) (new : Ways) : Type 0 where
  pub here : IsOneMore (get_by_text old text) legs (get_by_text new text)
  pub elsewhere : (other : List ℕ) → bytes_eq other text ≡ false → get_by_text new other ≡ get_by_text old other

-- how runs lead to a report; none does where there is no way
abbrev pub IsWay : List (Found Reported) → List ℕ → Option Way → Type 0
IsWay xs text None = AllByRecursion (λ x. leads_to text x ≡ false) xs
IsWay xs text (Some way) = (way.schedules ≡ count_by (leads_to text) xs) × AreFirstFewest xs text way.legs.items

abbrev pub AreWays : List (Found Reported) → Ways → Type 0
AreWays xs ways = (text : List ℕ) → IsWay xs text (get_by_text ways text)

-- these runs were taken
pub record HasTallied (tally : Tally) (xs : List (Found Reported)) : Type 0 where
  pub ways : AreWays xs tally.ways
  pub schedules : tally.schedules ≡ length xs
  pub locked : tally.aborted.locked ≡ sum_by (λ x. x.report.aborted.locked) xs
  pub changed : tally.aborted.changed ≡ sum_by (λ x. x.report.aborted.changed) xs

-- a way and its report as an outcome
abbrev pub outcome_of : String Global × Way → Outcome
outcome_of e = record { text = e.0; schedules = e.1.schedules; legs = e.1.legs }

-- the texts of outcomes rise, so that none comes twice
abbrev pub AreRising : List Outcome → Type 0
AreRising outcomes = IsStrictlySortedBy (slice_cmp nat_cmp) (map (λ o. string_bytes o.text) outcomes)
