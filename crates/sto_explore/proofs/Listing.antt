-- The ways of a tally as a list of outcomes.
use Rattle.std.specs.Prelude.{◌⊎◌, count_by, sum_by, string_bytes, Option, None, Some}
use Rattle.std.specs.List.{AllByRecursion, list_any}
use Rattle.std.specs.List.Sorted.{IsStrictlySortedBy, IsPermutation}
use Rattle.std.specs.Ordering.{nat_cmp, is_eq}
use Rattle.std.specs.Cmp.Lexicographic.{slice_cmp}
use Rattle.std.specs.Str.{bytes_eq}
use Rattle.std.specs.String.{string_cmp}
use Rattle.std.specs.Map.{lookup, keys_of}
use Rattle.std.specs.declared.string.String.{String}
use Rattle.std.specs.declared.alloc.Global.{Global}
use Rattle.std.proofs.Common.{◌≡◌, ◌+◌, ℕ, List, [], ◌∷◌, length, map, refl, sym, ap, ◌∙◌, subst, arith, cond, true, false, inl, inr, zero-add, Less, Equal}
use Rattle.std.proofs.lemmas.Bool.{cases_Bool, cond-true, cond-false, both_ways, or_cases, or_left, or_right, false≢true, false_from_ne_true}
use Rattle.std.proofs.lemmas.List.Sums.{sum_by-cons}
use Rattle.std.proofs.lemmas.List.Elements.{All-from_recursion, recursion_from_All}
use Rattle.std.proofs.lemmas.List.Sorted.{sum_by-IsPermutation, All-permutation}
use Rattle.std.proofs.lemmas.Slice.Eq.{bytes_eq-Decides}
use Rattle.std.proofs.lemmas.Map.Text.{is_eq-slice_cmp}
use Rattle.std.proofs.lemmas.Cmp.{tied_itself, nat_list_cmp_total}
use Rattle.sto_explore.specs.Explored.{Found}
use Rattle.sto_explore.specs.Outcomes.{leads_to, IsOutcome}
use Rattle.sto_explore.specs.Tallied.{Ways, IsWay, AreWays, AreRising, outcome_of}
use Rattle.sto_explore.specs.declared.outcome.Reported.{Reported}
use Rattle.sto_explore.specs.declared.outcome.Outcome.{Outcome}
use Rattle.sto_explore.specs.declared.way.Way.{Way}

abbrev Entry : Type 0
Entry = String Global × Way

abbrev text_of : Entry → List ℕ
text_of e = string_bytes e.0

abbrev text_in : Outcome → List ℕ
text_in o = string_bytes o.text

-- the way at a text
abbrev at_text : List ℕ → List Entry → Option Way
at_text text es = lookup (λ (k : String Global). is_eq (slice_cmp nat_cmp text (string_bytes k))) es

-- each of these texts is above one
abbrev AreAbove : List ℕ → List (List ℕ) → Type 0
AreAbove text texts = AllByRecursion (λ (other : List ℕ). slice_cmp nat_cmp text other ≡ Less) texts

same_text : (text : List ℕ) → is_eq (slice_cmp nat_cmp text text) ≡ true
same_text text = is_eq-slice_cmp text text ∙ (bytes_eq-Decides text text).1 refl

-- a text above another is not the same
apart : (a b : List ℕ) → slice_cmp nat_cmp a b ≡ Less → a ≡ b → ⊥
apart a b h same =
    let less : slice_cmp nat_cmp b b ≡ Less = subst (λ (t : List ℕ). slice_cmp nat_cmp t b ≡ Less) same h in
    let tied : slice_cmp nat_cmp b b ≡ Equal = tied_itself nat_list_cmp_total b in
    cc

apart_eq : (a b : List ℕ) → slice_cmp nat_cmp a b ≡ Less → is_eq (slice_cmp nat_cmp b a) ≡ false
apart_eq a b h = is_eq-slice_cmp b a ∙ false_from_ne_true (bytes_eq b a) (λ is. apart a b h (sym ((bytes_eq-Decides b a).0 is)))

keys_above : (k : String Global) (es : List Entry) → AllByRecursion (λ (other : String Global). string_cmp k other ≡ Less) (keys_of es) → AreAbove (string_bytes k) (map text_in (map outcome_of es))
keys_above k [] h = tt
keys_above k (e ∷ es) h = (h.0, keys_above k es h.1)

-- keys in order, read as texts
pub rising : (es : List Entry) → IsStrictlySortedBy string_cmp (keys_of es) → AreRising (map outcome_of es)
unfolding IsStrictlySortedBy
rising [] h = tt
rising (e ∷ es) h = (keys_above e.0 es h.0, rising es h.1)

-- a look-up finds each entry
IsFoundIn : List Entry → Entry → Type 0
IsFoundIn es e = at_text (text_of e) es ≡ Some e.1

found_past : (first : Entry) (all es : List Entry) → AreAbove (text_of first) (map text_in (map outcome_of es)) → AllByRecursion (IsFoundIn all) es → AllByRecursion (IsFoundIn (first ∷ all)) es
unfolding IsFoundIn
found_past first all [] above h = tt
found_past first all (e ∷ es) above h = (
  cond-false (is_eq (slice_cmp nat_cmp (text_of e) (text_of first))) (Some first.1) (at_text (text_of e) all) (apart_eq (text_of first) (text_of e) above.0) ∙ h.0,
  found_past first all es above.1 h.1,
)

found : (es : List Entry) → AreRising (map outcome_of es) → AllByRecursion (IsFoundIn es) es
unfolding IsFoundIn IsStrictlySortedBy
found [] h = tt
found (e ∷ es) h = (
  cond-true (is_eq (slice_cmp nat_cmp (text_of e) (text_of e))) (Some e.1) (at_text (text_of e) es) (same_text (text_of e)),
  found_past e es es h.0 (found es h.1),
)

-- so each is an outcome
each_of : (xs : List (Found Reported)) (all es : List Entry) → ((text : List ℕ) → IsWay xs text (at_text text all)) → AllByRecursion (IsFoundIn all) es
    → AllByRecursion (IsOutcome xs) (map outcome_of es)
unfolding IsFoundIn
each_of xs all [] ways h = tt
each_of xs all (e ∷ es) ways h =
    let way : IsWay xs (text_of e) (Some e.1) = subst (IsWay xs (text_of e)) h.0 (ways (text_of e)) in
    (record { schedules = way.0; legs = way.1 }, each_of xs all es ways h.1)

-- a text that is found is that of an outcome
found_among : (text : List ℕ) (es : List Entry) (way : Way) → at_text text es ≡ Some way → list_any (λ (o : Outcome). bytes_eq (text_in o) text) (map outcome_of es) ≡ true
found_among text [] way h = cc
found_among text (e ∷ es) way h = elim (cases_Bool (is_eq (slice_cmp nat_cmp text (text_of e)))) [
  | inl is ↦ or_left (bytes_eq (text_of e) text) (list_any (λ (o : Outcome). bytes_eq (text_in o) text) (map outcome_of es))
      ((bytes_eq-Decides (text_of e) text).1 (sym ((bytes_eq-Decides text (text_of e)).0 (sym (is_eq-slice_cmp text (text_of e)) ∙ is))))
  | inr other ↦ or_right (bytes_eq (text_of e) text) (list_any (λ (o : Outcome). bytes_eq (text_in o) text) (map outcome_of es))
      (found_among text es way (sym (cond-false (is_eq (slice_cmp nat_cmp text (text_of e))) (Some e.1) (at_text text es) other) ∙ h))
]

-- the report of a run is among the outcomes
abbrev IsIn : List Outcome → Found Reported → Type 0
IsIn os x = list_any (λ (o : Outcome). leads_to (text_in o) x) os ≡ true

abbrev IsInOrElsewhere : List Outcome → List (Found Reported) → List ℕ → Type 0
IsInOrElsewhere os xs text = (list_any (λ (o : Outcome). bytes_eq (text_in o) text) os ≡ true) ⊎ AllByRecursion (λ x. leads_to text x ≡ false) xs

all_in : (os : List Outcome) (xs : List (Found Reported)) → ((text : List ℕ) → IsInOrElsewhere os xs text) → AllByRecursion (IsIn os) xs
all_in os [] h = tt
all_in os (x ∷ xs) h = (here (h (string_bytes x.report.text)), all_in os xs (λ text. further text (h text)))
  where
    here : IsInOrElsewhere os (x ∷ xs) (string_bytes x.report.text) → IsIn os x
    here (inl is) = is
    here (inr none) = absurd (both_ways (leads_to (string_bytes x.report.text) x) none.0 ((bytes_eq-Decides (string_bytes x.report.text) (string_bytes x.report.text)).1 refl))

    further : (text : List ℕ) → IsInOrElsewhere os (x ∷ xs) text → IsInOrElsewhere os xs text
    further text (inl is) = inl is
    further text (inr none) = inr none.1

in_or_elsewhere : (xs : List (Found Reported)) (es : List Entry) (text : List ℕ) (way : Option Way) → at_text text es ≡ way → IsWay xs text way → IsInOrElsewhere (map outcome_of es) xs text
in_or_elsewhere xs es text None is h = inr h
in_or_elsewhere xs es text (Some way) is h = inl (found_among text es way is)

-- a run leads to exactly one of outcomes that rise
none_past : (x : Found Reported) (text : List ℕ) (os : List Outcome) → AreAbove text (map text_in os) → text ≡ string_bytes x.report.text
    → count_by (λ (o : Outcome). leads_to (text_in o) x) os ≡ 0
none_past x text [] above is = refl
none_past x text (o ∷ os) above is =
    let other : leads_to (text_in o) x ≡ false = false_from_ne_true (leads_to (text_in o) x)
    (λ same. apart text (text_in o) above.0 (is ∙ sym ((bytes_eq-Decides (text_in o) (string_bytes x.report.text)).0 same))) in
    sum_by-cons (λ (p : Outcome). cond (leads_to (text_in p) x) 1 0) o os
    ∙ ap (λ (n : ℕ). n + count_by (λ (p : Outcome). leads_to (text_in p) x) os) (cond-false (leads_to (text_in o) x) 1 0 other)
    ∙ zero-add (count_by (λ (p : Outcome). leads_to (text_in p) x) os) ∙ none_past x text os above.1 is

once : (x : Found Reported) (os : List Outcome) → AreRising os → IsIn os x → count_by (λ (o : Outcome). leads_to (text_in o) x) os ≡ 1
unfolding IsStrictlySortedBy
once x [] rising any = absurd (false≢true any)
once x (o ∷ os) rising any =
    let all = sum_by-cons (λ (p : Outcome). cond (leads_to (text_in p) x) 1 0) o os in
    let past = λ (n : ℕ). n + count_by (λ (p : Outcome). leads_to (text_in p) x) os in
    elim (cases_Bool (leads_to (text_in o) x)) [
      | inl is ↦ all ∙ ap past (cond-true (leads_to (text_in o) x) 1 0 is)
          ∙ ap (λ (n : ℕ). 1 + n) (none_past x (text_in o) os rising.0 ((bytes_eq-Decides (text_in o) (string_bytes x.report.text)).0 is))
      | inr is_not ↦ all ∙ ap past (cond-false (leads_to (text_in o) x) 1 0 is_not) ∙ zero-add (count_by (λ (p : Outcome). leads_to (text_in p) x) os)
          ∙ once x os rising.1 (past_first (or_cases (leads_to (text_in o) x) (list_any (λ (p : Outcome). leads_to (text_in p) x) os) any) is_not)
    ]
  where
    past_first : (leads_to (text_in o) x ≡ true) ⊎ IsIn os x → leads_to (text_in o) x ≡ false → IsIn os x
    past_first (inl is) is_not = absurd (both_ways (leads_to (text_in o) x) is_not is)
    past_first (inr there) is_not = there

-- sums over outcomes
sum_zero : (os : List Outcome) → sum_by (λ (o : Outcome). 0) os ≡ 0
sum_zero [] = refl
sum_zero (o ∷ os) = sum_by-cons (λ (p : Outcome). 0) o os ∙ zero-add (sum_by (λ (p : Outcome). 0) os) ∙ sum_zero os

sum_plus : (f g h : Outcome → ℕ) → ((o : Outcome) → f o ≡ g o + h o) → (os : List Outcome) → sum_by f os ≡ sum_by g os + sum_by h os
sum_plus f g h is [] = refl
sum_plus f g h is (o ∷ os) = omega (arith, sum_by-cons f o os, sum_by-cons g o os, sum_by-cons h o os, is o, sum_plus f g h is os)

counted : (os : List Outcome) (xs : List (Found Reported)) → AreRising os → AllByRecursion (IsIn os) xs
    → sum_by (λ (o : Outcome). count_by (leads_to (text_in o)) xs) os ≡ length xs
counted os [] rising any = sum_zero os
counted os (x ∷ xs) rising any =
    omega (
      arith,
      sum_plus (λ (o : Outcome). count_by (leads_to (text_in o)) (x ∷ xs)) (λ (o : Outcome). cond (leads_to (text_in o) x) 1 0) (λ (o : Outcome). count_by (leads_to (text_in o)) xs)
          (λ (o : Outcome). sum_by-cons (λ (y : Found Reported). cond (leads_to (text_in o) y) 1 0) x xs) os,
      once x os rising any.0,
      counted os xs rising any.1,
    )

sum_counts : (xs : List (Found Reported)) (os : List Outcome) → AllByRecursion (IsOutcome xs) os
    → sum_by (λ (o : Outcome). o.schedules) os ≡ sum_by (λ (o : Outcome). count_by (leads_to (text_in o)) xs) os
sum_counts xs [] h = refl
sum_counts xs (o ∷ os) h = omega (
  arith,
  sum_by-cons (λ (p : Outcome). p.schedules) o os,
  sum_by-cons (λ (p : Outcome). count_by (leads_to (text_in p)) xs) o os,
  h.0.schedules,
  sum_counts xs os h.1,
)

-- each run leads to exactly one of them
abbrev IsOnceIn : List Outcome → Found Reported → Type 0
IsOnceIn os x = count_by (λ (o : Outcome). leads_to (text_in o) x) os ≡ 1

all_once : (os : List Outcome) (xs : List (Found Reported)) → AreRising os → AllByRecursion (IsIn os) xs → AllByRecursion (IsOnceIn os) xs
all_once os [] rising any = tt
all_once os (x ∷ xs) rising any = (once x os rising any.0, all_once os xs rising any.1)

-- the ways of runs are their outcomes
pub record AreListed (xs : List (Found Reported)) (os : List Outcome) : Type 0 where
  pub each : AllByRecursion (IsOutcome xs) os
  pub once : AllByRecursion (λ x. count_by (λ o. leads_to (string_bytes o.text) x) os ≡ 1) xs
  pub sum : sum_by (λ o. o.schedules) os ≡ length xs

pub listed : (xs : List (Found Reported)) (ways : Ways) → AreWays xs ways → AreRising (map outcome_of ways.entries) → AreListed xs (map outcome_of ways.entries)
listed xs ways h order =
    let es = ways.entries in
    let each = each_of xs es es h (found es order) in
    let all = all_in (map outcome_of es) xs (λ text. in_or_elsewhere xs es text (at_text text es) refl (h text)) in
    record {
      each = each;
      once = all_once (map outcome_of es) xs order all;
      sum = sum_counts xs (map outcome_of es) each ∙ counted (map outcome_of es) xs order all;
    }

-- the same in another order
once_in_order : (os ps : List Outcome) (xs : List (Found Reported)) → IsPermutation os ps → AllByRecursion (IsOnceIn os) xs → AllByRecursion (IsOnceIn ps) xs
once_in_order os ps [] same h = tt
once_in_order os ps (x ∷ xs) same h =
    (sum_by-IsPermutation (λ (o : Outcome). cond (leads_to (text_in o) x) 1 0) os ps same ∙ h.0, once_in_order os ps xs same h.1)

pub listed_in_order : (xs : List (Found Reported)) (os ps : List Outcome) → IsPermutation os ps → AreListed xs os → AreListed xs ps
listed_in_order xs os ps same h = record {
  each = recursion_from_All (IsOutcome xs) ps (All-permutation (IsOutcome xs) os ps same (All-from_recursion (IsOutcome xs) os h.each));
  once = once_in_order os ps xs same h.once;
  sum = sum_by-IsPermutation (λ (o : Outcome). o.schedules) os ps same ∙ h.sum;
}
