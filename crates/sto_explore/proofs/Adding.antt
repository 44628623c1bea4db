-- A tally with one run more.
use Rattle.std.specs.Prelude.{string_bytes, Option, None, Some}
use Rattle.std.specs.Str.{bytes_eq}
use Rattle.std.specs.BTreeMap.{get_by_text, UpdatesBy}
use Rattle.std.specs.Ordering.{nat_cmp}
use Rattle.std.specs.Cmp.Lexicographic.{slice_cmp}
use Rattle.std.specs.String.{string_cmp}
use Rattle.std.specs.declared.string.String.{String}
use Rattle.std.specs.declared.alloc.Global.{Global}
use Rattle.std.proofs.Common.{◌≡◌, ◌+◌, ℕ, List, [], ◌∷◌, ◌++◌, sym, ap, ◌∙◌, subst, arith, inl, inr, length-append}
use Rattle.std.proofs.lemmas.Bool.{cases_Bool, false_from_ne_true, both_ways}
use Rattle.std.proofs.lemmas.Slice.Eq.{bytes_eq-Decides}
use Rattle.std.proofs.lemmas.List.Sums.{sum_by_push}
use Rattle.std.proofs.lemmas.Map.{update_other}
use Rattle.std.proofs.lemmas.Map.Text.{btree_map_updates_text}
use Rattle.sto_explore.specs.Explored.{Found}
use Rattle.sto_explore.specs.declared.leg.Leg.{Leg}
use Rattle.sto_explore.specs.Outcomes.{leads_to}
use Rattle.sto_explore.specs.Tallied.{Ways, HasOneMore, HasOneMoreWay, IsOneMore, IsWay, AreWays, HasTallied}
use Rattle.sto_explore.specs.declared.way.Way.{Way}
use Rattle.sto_explore.specs.declared.tally.Tally.{Tally}
use Rattle.sto_explore.specs.declared.outcome.Reported.{Reported}
use Rattle.sto_explore.proofs.Ways.{way_here, way_elsewhere}

-- the ways with one run more
pub ways_more : (xs : List (Found Reported)) (x : Found Reported) (old new : Ways) → AreWays xs old → HasOneMoreWay old (string_bytes x.report.text) x.legs new
    → AreWays (xs ++ x ∷ []) new
ways_more xs x old new h more text = elim (cases_Bool (leads_to text x)) [
  | inl here ↦ let same : text ≡ string_bytes x.report.text = (bytes_eq-Decides text (string_bytes x.report.text)).0 here in
      way_here xs x text (get_by_text old text) (get_by_text new text) (h text) here
      (subst (λ (t : List ℕ). IsOneMore (get_by_text old t) x.legs (get_by_text new t)) (sym same) more.here)
  | inr elsewhere ↦ subst (IsWay (xs ++ x ∷ []) text) (sym (more.elsewhere text elsewhere)) (way_elsewhere xs x text (get_by_text old text) (h text) elsewhere)
]

-- a report that was led to before
pub again : (text : List ℕ) (old : Ways) (legs : List Leg) (way new : Way) → Some way ≡ get_by_text old text → HasOneMore way legs new → IsOneMore (get_by_text old text) legs (Some new)
again text old legs way new is more = subst (λ (o : Option Way). IsOneMore o legs (Some new)) is more

-- one that was not
pub first : (text : List ℕ) (old : Ways) (legs : List Leg) (new : Way) → get_by_text old text ≡ None → new.schedules ≡ 1 → new.legs.items ≡ legs → IsOneMore (get_by_text old text) legs (Some new)
first text old legs new is one same = subst (λ (o : Option Way). IsOneMore o legs (Some new)) (sym is) (one, same)

-- a way was put at a report
pub way_put : (text : List ℕ) (old new : Ways) (legs : List Leg) (way : Way) → UpdatesBy string_cmp (λ (k : String Global). slice_cmp nat_cmp text (string_bytes k)) old new (Some way)
    → IsOneMore (get_by_text old text) legs (Some way) → HasOneMoreWay old text legs new
way_put text old new legs way put more = record {
  here = subst (λ (o : Option Way). IsOneMore (get_by_text old text) legs o) (sym put.1) more;
  elsewhere = λ other apart. btree_map_updates_text text old new (Some way) put other
      ∙ update_other bytes_eq (get_by_text old) text (Some way) other
      (false_from_ne_true (bytes_eq text other) (λ is. both_ways (bytes_eq other text) apart ((bytes_eq-Decides other text).1 (sym ((bytes_eq-Decides text other).0 is)))));
}

-- a tally with one run more
pub tallied_more : (xs : List (Found Reported)) (x : Found Reported) (old new : Tally) → HasTallied old xs → HasOneMoreWay old.ways (string_bytes x.report.text) x.legs new.ways
    → new.schedules ≡ old.schedules + 1 → new.aborted.locked ≡ old.aborted.locked + x.report.aborted.locked → new.aborted.changed ≡ old.aborted.changed + x.report.aborted.changed
    → HasTallied new (xs ++ x ∷ [])
tallied_more xs x old new h more schedules locked changed = record {
  ways = ways_more xs x old.ways new.ways h.ways more;
  schedules = omega (arith, schedules, h.schedules, length-append xs (x ∷ []));
  locked = locked ∙ ap (λ (n : ℕ). n + x.report.aborted.locked) h.locked ∙ sym (sum_by_push (λ (y : Found Reported). y.report.aborted.locked) xs x);
  changed = changed ∙ ap (λ (n : ℕ). n + x.report.aborted.changed) h.changed ∙ sym (sum_by_push (λ (y : Found Reported). y.report.aborted.changed) xs x);
}
