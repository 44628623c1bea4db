-- One run more, and how runs lead to a report then.
use Rattle.std.specs.List.{AllByRecursion}
use Rattle.std.specs.Prelude.{count_by, nat_lt, Option, None, Some}
use Rattle.std.proofs.Common.{◌≡◌, ◌<◌, ◌+◌, ℕ, List, [], ◌∷◌, ◌++◌, length, refl, sym, ap, ◌∙◌, subst, arith, cond, true, false, inl, inr, append_assoc, add-zero, zero-add}
use Rattle.std.proofs.lemmas.Bool.{cases_lt, lt-ltb, le-ltb, cond-true, cond-false, both_ways}
use Rattle.std.proofs.lemmas.List.Sums.{sum_by_push, sum_by-cons}
use Rattle.sto_explore.specs.Explored.{Found}
use Rattle.sto_explore.specs.declared.leg.Leg.{Leg}
use Rattle.sto_explore.specs.Outcomes.{leads_to, NeedsAtLeast, AreFirstFewest}
use Rattle.sto_explore.specs.Tallied.{fewer_of, IsOneMore, IsWay}
use Rattle.sto_explore.specs.declared.outcome.Reported.{Reported}
use Rattle.sto_explore.specs.declared.way.Way.{Way}
use Rattle.sto_explore.proofs.Lists.{all_append, all_weaker}

-- all runs, where the first with the fewest legs has so many
all_need : (xs : List (Found Reported)) (text : List ℕ) (legs : List Leg) → AreFirstFewest xs text legs → AllByRecursion (NeedsAtLeast text (length legs)) xs
all_need xs text legs h =
    let before = all_weaker (NeedsAtLeast text (length legs + 1)) (NeedsAtLeast text (length legs))
    (λ (y : Found Reported) (k : NeedsAtLeast text (length legs + 1) y) (e : leads_to text y ≡ true). omega (arith, k e)) h.before h.more in
    let own : NeedsAtLeast text (length legs) h.x = λ _. omega (arith, ap (λ (ls : List Leg). length ls) h.same) in
    subst (AllByRecursion (NeedsAtLeast text (length legs))) (sym h.among)
    (all_append (NeedsAtLeast text (length legs)) h.before (h.x ∷ h.others) before (own, h.no_fewer))

-- a later one of them with fewer
fewest_later : (xs : List (Found Reported)) (x : Found Reported) (text : List ℕ) (legs : List Leg) → AreFirstFewest xs text legs → leads_to text x ≡ true → length x.legs < length legs
    → AreFirstFewest (xs ++ x ∷ []) text x.legs
fewest_later xs x text legs h leads fewer = record {
  before = xs;
  x = x;
  others = [];
  among = refl;
  same = refl;
  leads = leads;
  more = all_weaker (NeedsAtLeast text (length legs)) (NeedsAtLeast text (length x.legs + 1))
      (λ (y : Found Reported) (k : NeedsAtLeast text (length legs) y) (e : leads_to text y ≡ true). omega (arith, k e, fewer)) xs (all_need xs text legs h);
  no_fewer = tt;
}

-- a later run that does not have fewer, or does not lead there
fewest_still : (xs : List (Found Reported)) (x : Found Reported) (text : List ℕ) (legs : List Leg) → AreFirstFewest xs text legs → NeedsAtLeast text (length legs) x
    → AreFirstFewest (xs ++ x ∷ []) text legs
fewest_still xs x text legs h needs = record {
  before = h.before;
  x = h.x;
  others = h.others ++ x ∷ [];
  among = ap (λ (ys : List (Found Reported)). ys ++ x ∷ []) h.among ∙ append_assoc h.before (h.x ∷ h.others) (x ∷ []);
  same = h.same;
  leads = h.leads;
  more = h.more;
  no_fewer = all_append (NeedsAtLeast text (length legs)) h.others (x ∷ []) h.no_fewer (needs, tt);
}

fewest_more : (xs : List (Found Reported)) (x : Found Reported) (text : List ℕ) (legs : List Leg) → AreFirstFewest xs text legs → leads_to text x ≡ true
    → AreFirstFewest (xs ++ x ∷ []) text (fewer_of legs x.legs)
fewest_more xs x text legs h leads = elim (cases_lt (length x.legs) (length legs)) [
  | inl fewer ↦ subst (AreFirstFewest (xs ++ x ∷ []) text) (sym (cond-true (nat_lt (length x.legs) (length legs)) x.legs legs (lt-ltb (length x.legs) (length legs) fewer)))
      (fewest_later xs x text legs h leads fewer)
  | inr as_many ↦ subst (AreFirstFewest (xs ++ x ∷ []) text) (sym (cond-false (nat_lt (length x.legs) (length legs)) x.legs legs (le-ltb (length x.legs) (length legs) as_many)))
      (fewest_still xs x text legs h (λ _. as_many))
]

-- how many lead there, with one run more
count_yes : (xs : List (Found Reported)) (x : Found Reported) (text : List ℕ) → leads_to text x ≡ true → count_by (leads_to text) (xs ++ x ∷ []) ≡ count_by (leads_to text) xs + 1
count_yes xs x text leads =
    sum_by_push (λ (y : Found Reported). cond (leads_to text y) 1 0) xs x ∙ ap (λ (n : ℕ). count_by (leads_to text) xs + n) (cond-true (leads_to text x) 1 0 leads)

count_no : (xs : List (Found Reported)) (x : Found Reported) (text : List ℕ) → leads_to text x ≡ false → count_by (leads_to text) (xs ++ x ∷ []) ≡ count_by (leads_to text) xs
count_no xs x text elsewhere =
    sum_by_push (λ (y : Found Reported). cond (leads_to text y) 1 0) xs x ∙ ap (λ (n : ℕ). count_by (leads_to text) xs + n) (cond-false (leads_to text x) 1 0 elsewhere)
    ∙ add-zero (count_by (leads_to text) xs)

-- where none leads there, none is counted
count_none : (xs : List (Found Reported)) (text : List ℕ) → AllByRecursion (λ x. leads_to text x ≡ false) xs → count_by (leads_to text) xs ≡ 0
count_none [] text h = refl
count_none (x ∷ xs) text h =
    sum_by-cons (λ (y : Found Reported). cond (leads_to text y) 1 0) x xs
    ∙ ap (λ (n : ℕ). n + count_by (leads_to text) xs) (cond-false (leads_to text x) 1 0 h.0) ∙ zero-add (count_by (leads_to text) xs) ∙ count_none xs text h.1

-- a run that leads to a report
pub way_here : (xs : List (Found Reported)) (x : Found Reported) (text : List ℕ) (old new : Option Way) → IsWay xs text old → leads_to text x ≡ true → IsOneMore old x.legs new
    → IsWay (xs ++ x ∷ []) text new
way_here xs x text old None h leads more = absurd more
way_here xs x text None (Some new) h leads more = (
  more.0 ∙ sym (count_yes xs x text leads ∙ ap (λ (n : ℕ). n + 1) (count_none xs text h)),
  subst (AreFirstFewest (xs ++ x ∷ []) text) (sym more.1) (record {
    before = xs;
    x = x;
    others = [];
    among = refl;
    same = refl;
    leads = leads;
    more = all_weaker (λ (y : Found Reported). leads_to text y ≡ false) (NeedsAtLeast text (length x.legs + 1))
        (λ (y : Found Reported) (none : leads_to text y ≡ false) (e : leads_to text y ≡ true). absurd (both_ways (leads_to text y) none e)) xs h;
    no_fewer = tt;
  }),
)
way_here xs x text (Some old) (Some new) h leads more = (
  more.schedules ∙ ap (λ (n : ℕ). n + 1) h.0 ∙ sym (count_yes xs x text leads),
  subst (AreFirstFewest (xs ++ x ∷ []) text) (sym more.legs) (fewest_more xs x text old.legs.items h.1 leads),
)

-- one that leads elsewhere
pub way_elsewhere : (xs : List (Found Reported)) (x : Found Reported) (text : List ℕ) (way : Option Way) → IsWay xs text way → leads_to text x ≡ false
    → IsWay (xs ++ x ∷ []) text way
way_elsewhere xs x text None h elsewhere = all_append (λ (y : Found Reported). leads_to text y ≡ false) xs (x ∷ []) h (elsewhere, tt)
way_elsewhere xs x text (Some way) h elsewhere = (
  h.0 ∙ sym (count_no xs x text elsewhere),
  fewest_still xs x text way.legs.items h.1 (λ e. absurd (both_ways (leads_to text x) elsewhere e)),
)
