-- One attempt on words of one pass, from the contents before it to those after it.
use Rattle.std.specs.Prelude.{if◌then◌else◌, ◌==◌}
use mathlib.Core.Option.{some}
use lib.ListN.{get_elem?}
use Rattle.std.proofs.Common.{◌≡◌, ◌≤◌, ◌<◌, ◌+◌, ◌-◌, ℕ, suc, List, [], ◌∷◌, length, refl, sym, ap, ◌∙◌, subst, arith, inl, inr, Bool, false}
use Rattle.std.proofs.lemmas.Bool.{cases_lt}
use Rattle.std.proofs.lemmas.Bool.Decides.{nat_tests}
use Rattle.sto_part.specs.Parts.{part_of}
use Rattle.sto_item.specs.Pending.{applied_updates}
use Rattle.sto_model.specs.PlainReplies.{PlainReply}
use Rattle.sto_model.specs.Run.{Behaviour}
use Rattle.sto_core.specs.declared.view.View.{View}
use Rattle.sto_core.specs.Core.{Core}
use Rattle.sto_core.specs.Lists.{Each}
use Rattle.sto_core.specs.History.{Contents, Validity, Updates, committed_updates, contents_as_of, up, Shows}
use Rattle.sto_core.specs.Rule.{Past, Rule, IsLogged, total}
use Rattle.sto_core.proofs.Valid.{all_valid, part_after}
use Rattle.sto_type.specs.Meaning.{Meaning}
use Rattle.sto_history.specs.Records.{TransactionPlace, Verdict, Wrote, Read, Cancelled, Locked, Changed, is_abort, wrote_with, IsSince}
use Rattle.sto_history.specs.Counted.{times_committed}
use Rattle.sto_history.specs.Added.{Grows, IsAdded, IsKnown}
use Rattle.sto_history.specs.Told.{HasClaimed}
use Rattle.sto_plain.specs.Kept.{AreUpToDate}
use Rattle.sto_plain.specs.Passes.{view_at, view_of}
use Rattle.sto_transaction.specs.Resting.{IsAtRest}
use Rattle.sto_test_alone.specs.Alone.{RunsAlone}
use Rattle.sto_test_alone.proofs.History.{IsWon, won_at, entries_logged, entry_there, installed, nothing, none_above, same_contents, still_contents}

-- the words after both, and what the pass knows of them
pub record IsOne (valid : Validity) (m : Meaning) (sizes : List ℕ) (c : Core) (v : View) (contents : Contents) : Type 0 where
  pub past : Past
  pub rule : Rule valid sizes m.opened past c
  pub views : c.views ≡ v ∷ []
  pub are : contents ≡ contents_as_of m.opened past.log c.clock

only_view : (l : List View) → length l ≡ 1 → l ≡ view_at l 0 ∷ []
only_view [] h = absurd (omega (arith, h))
only_view (x ∷ []) h = refl
only_view (x ∷ y ∷ l) h = absurd (omega (arith, h))

pub one_pass : (valid : Validity) (m : Meaning) (sizes : List ℕ) (c : Core) (contents : Contents) → length c.statuses ≡ 1 → length c.views ≡ 1 → IsAtRest m sizes (view_of c 0) → AreUpToDate valid c contents
    → IsOne valid m sizes c (view_of c 0) contents
one_pass valid m sizes c contents statuses views rests up_to =
    let v : View = view_of c 0 in
    let only : c.views ≡ v ∷ [] = only_view c.views views in
    let seat : get_elem? c.views 0 ≡ some v = ap (λ (l : List View). get_elem? l 0) only in
    let sum : total (λ (u : View). u.gathered) c.views ≡ v.gathered + 0 = ap (total (λ (u : View). u.gathered)) only in
    let live : 0 < v.gathered = (let g = up_to.rule.gathered in omega (arith, g, sum, statuses)) in
    let serves = (up_to.rule.each 0 v seat).serves live in
    let sized : up_to.sizes ≡ sizes = sym serves.same_sizes ∙ rests.sized in
    let opened : up_to.opening ≡ m.opened = sym serves.same_opening ∙ rests.opened in
    record {
      past = up_to.past;
      rule = subst (λ (o : Contents). Rule valid sizes o up_to.past c) opened (subst (λ (l : List ℕ). Rule valid l up_to.opening up_to.past c) sized up_to.rule);
      views = only;
      are = up_to.are ∙ ap (λ (o : Contents). contents_as_of o up_to.past.log c.clock) opened;
    }

wrote_other : (t u : ℕ) → t < u → wrote_with t (Wrote u) ≡ 0
wrote_other t u l = let no : (u == t) ≡ false = grind (arith, nat_tests) in ap (λ (b : Bool). if b then 1 else 0) no

wrote_above : (t u : ℕ) → u < t → wrote_with t (Wrote u) ≡ 0
wrote_above t u l = let no : (u == t) ≡ false = grind (arith, nat_tests) in ap (λ (b : Bool). if b then 1 else 0) no

since_none : (t : ℕ) (r : Verdict) → IsSince t r → is_abort r ≡ false → wrote_with t r ≡ 0
since_none t (Wrote u) l ended = wrote_other t u l
since_none t (Read n) l ended = refl
since_none t (Cancelled n) l ended = refl
since_none t (Locked n p) l ended = absurd cc
since_none t (Changed n p u) l ended = absurd cc

-- From the state c and the view v to the state d and the view w, by one record that is not aborted.
module _ {valid : Validity} (m : Meaning) (sizes : List ℕ) (is : (c : Contents) → valid sizes c → m.valid c) (c d : Core) (v w : View) (old new : Contents) (was : IsOne valid m sizes c v old)
    (now : IsOne valid m sizes d w new) (f : Behaviour) (place : TransactionPlace) (replies : List PlainReply) (r : Verdict) (added : IsAdded m v w f place (record { place = place; replies = replies; verdict = r })) (grows : Grows v w)
    (entries : (t : ℕ) → times_committed t w.entries ≡ times_committed t v.entries + wrote_with t r) (ended : is_abort r ≡ false) where
  seat : get_elem? d.views 0 ≡ some w
  seat = ap (λ (l : List View). get_elem? l 0) now.views

  known : (t : ℕ) → 0 < t → t ≤ c.clock → IsKnown v t
  known t above within = let e = entry_there was.rule v was.views t above within in inr (inl (record { entry = e.1; there = (e.0, e.2); ticket = e.3 }))

  clock_known : IsKnown v c.clock
  clock_known = elim (cases_lt 0 c.clock) [
    | inl above ↦ known c.clock above (omega arith)
    | inr none ↦ inl (omega (arith, none))
  ]

  none_new : (t : ℕ) → 0 < t → t ≤ c.clock → wrote_with t r ≡ 0
  none_new t above within = since_none t r (added.since t (known t above within)) ended

  same : (t : ℕ) → 0 < t → t ≤ c.clock → t ≤ d.clock → committed_updates (now.past.log t) ≡ committed_updates (was.past.log t)
  same t above within after = elim (cases_lt 0 (times_committed t v.entries)) [
    | inl won ↦
        let h = won_at t v.entries won in
        let k : IsWon t w.entries = record { entry = h.entry; there = grows.entries h.entry h.there h.won; ticket = h.ticket; won = h.won } in
        installed now.rule w now.views t above after k ∙ sym (installed was.rule v was.views t above within h)
    | inr none ↦
        let before : times_committed t v.entries ≡ 0 = omega (arith, none) in
        let after_none : times_committed t w.entries ≡ 0 = (let e = entries t in let n = none_new t above within in omega (arith, e, n, before)) in
        nothing now.rule w now.views t above after after_none ∙ sym (nothing was.rule v was.views t above within before)
  ]

  none_at : (t : ℕ) → c.clock < t → t ≤ d.clock → wrote_with t r ≡ 0 → committed_updates (now.past.log t) ≡ []
  none_at t above within none =
      let e = entries t in
      let before = none_above was.rule v was.views t above in
      nothing now.rule w now.views t (omega (arith, above)) within (omega (arith, e, before, none))

  -- as long as nothing is written the contents stay
  still_to : (n : ℕ) → c.clock ≤ n → n ≤ d.clock → ((t : ℕ) → c.clock < t → t ≤ n → wrote_with t r ≡ 0) → contents_as_of m.opened now.past.log n ≡ old
  still_to n from to none =
      let place_is : c.clock + (n - c.clock) ≡ n = omega (arith, from) in
      ap (contents_as_of m.opened now.past.log) (sym place_is)
      ∙ still_contents m.opened now.past.log c.clock (n - c.clock) (λ t above within. none_at t above (omega (arith, within, place_is, to)) (none t above (omega (arith, within, place_is))))
      ∙ same_contents m.opened now.past.log was.past.log c.clock (λ t above within. same t above within (omega (arith, within, from, to))) ∙ sym was.are

  old_valid : m.valid old
  old_valid = is old (subst (λ (x : Contents). valid sizes x) (sym was.are) (all_valid was.rule c.clock (omega arith)))

  part_is : (n p : ℕ) → n ≤ d.clock → contents_as_of m.opened now.past.log n ≡ old → part_of old p ≡ up m.opened now.past.log p n
  part_is n p to stays = ap (λ (x : Contents). part_of x p) (sym stays) ∙ part_after now.rule p n to

  claimed : (n : ℕ) → n ≤ d.clock → contents_as_of m.opened now.past.log n ≡ old → HasClaimed w n old
  claimed n to stays j k at number =
      part_is n k.part to stays ∙ ap (up m.opened now.past.log k.part) (sym number) ∙ sym ((now.rule.each 0 w seat).claims j k at).stands.words

  at_clock : w.at ≤ d.clock
  at_clock = (now.rule.each 0 w seat).at

module _ {valid : Validity} (m : Meaning) (sizes : List ℕ) (is : (c : Contents) → valid sizes c → m.valid c) (c d : Core) (v w : View) (old new : Contents) (was : IsOne valid m sizes c v old)
    (now : IsOne valid m sizes d w new) (f : Behaviour) (place : TransactionPlace) (replies : List PlainReply) (grows : Grows v w) where
  read_alone : (n : ℕ) → IsAdded m v w f place (record { place = place; replies = replies; verdict = Read n }) → ((t : ℕ) → times_committed t w.entries ≡ times_committed t v.entries + 0)
      → RunsAlone m f old new replies (Read n)
  read_alone n added entries =
      let from : c.clock ≤ n = added.since c.clock (clock_known m sizes is c d v w old new was now f place replies (Read n) added grows entries refl) in
      let to : n ≤ d.clock = (let a = at_clock m sizes is c d v w old new was now f place replies (Read n) added grows entries refl in let k = added.told.known in omega (arith, a, k)) in
      let stays = still_to m sizes is c d v w old new was now f place replies (Read n) added grows entries refl n from to (λ t above within. refl) in
      let same : new ≡ old = now.are ∙ still_to m sizes is c d v w old new was now f place replies (Read n) added grows entries refl d.clock (omega (arith, from, to)) (omega arith) (λ t above within. refl) in
      let run = added.told.runs old (old_valid m sizes is c d v w old new was now f place replies (Read n) added grows entries refl) (claimed m sizes is c d v w old new was now f place replies (Read n) added grows entries refl n to stays) in
      record {
        unaborted = refl;
        serial = record { runs = run.run; ends = added.told.ends; leaves = ap m.rows same ∙ run.state };
        writes = sym added.told.writes;
        installs = same;
      }

  cancelled_alone : (n : ℕ) → IsAdded m v w f place (record { place = place; replies = replies; verdict = Cancelled n }) → ((t : ℕ) → times_committed t w.entries ≡ times_committed t v.entries + 0)
      → RunsAlone m f old new replies (Cancelled n)
  cancelled_alone n added entries =
      let from : c.clock ≤ n = added.since c.clock (clock_known m sizes is c d v w old new was now f place replies (Cancelled n) added grows entries refl) in
      let to : n ≤ d.clock = (let a = at_clock m sizes is c d v w old new was now f place replies (Cancelled n) added grows entries refl in let k = added.told.known in omega (arith, a, k)) in
      let stays = still_to m sizes is c d v w old new was now f place replies (Cancelled n) added grows entries refl n from to (λ t above within. refl) in
      let same : new ≡ old = now.are ∙ still_to m sizes is c d v w old new was now f place replies (Cancelled n) added grows entries refl d.clock (omega (arith, from, to)) (omega arith) (λ t above within. refl) in
      let run = added.told.runs old (old_valid m sizes is c d v w old new was now f place replies (Cancelled n) added grows entries refl) (claimed m sizes is c d v w old new was now f place replies (Cancelled n) added grows entries refl n to stays) in
      record { unaborted = refl; serial = record { runs = run; ends = added.told.ends; leaves = ap m.rows same }; writes = refl; installs = same }

  wrote_alone : (u : ℕ) → IsAdded m v w f place (record { place = place; replies = replies; verdict = Wrote u }) → ((t : ℕ) → times_committed t w.entries ≡ times_committed t v.entries + wrote_with t (Wrote u))
      → RunsAlone m f old new replies (Wrote u)
  wrote_alone u added entries =
      let from : c.clock < u = added.since c.clock (clock_known m sizes is c d v w old new was now f place replies (Wrote u) added grows entries refl) in
      let told = added.told in
      let e = told.entry in
      let logged : IsLogged valid sizes m.opened now.past.log d.clock e = entries_logged now.rule w now.views told.there.0 e told.there.1 in
      let to : u ≤ d.clock = (let l = logged.within in let k = told.drawn in omega (arith, l, k)) in
      let stays = still_to m sizes is c d v w old new was now f place replies (Wrote u) added grows entries refl (u - 1) (omega (arith, from)) (omega (arith, to)) (λ t above within. wrote_other t u (omega (arith, within, from))) in
      let shows : Each (Shows old) e.looked =
      (λ j l at.
      part_is m sizes is c d v w old new was now f place replies (Wrote u) added grows entries refl (u - 1) l.part (omega (arith, to)) stays
      ∙ ap (λ (n : ℕ). up m.opened now.past.log l.part (n - 1)) (sym told.drawn) ∙ sym (logged.looked told.committed j l at).words) in
      let run = told.runs old (old_valid m sizes is c d v w old new was now f place replies (Wrote u) added grows entries refl) shows in
      let next : suc (u - 1) ≡ u = omega (arith, from) in
      let won : IsWon u w.entries = record { entry = e; there = told.there; ticket = told.drawn; won = told.committed } in
      let updates : committed_updates (now.past.log u) ≡ e.updates = installed now.rule w now.views u (omega (arith, from)) to won in
      let at_ticket : contents_as_of m.opened now.past.log u ≡ applied_updates e.updates old =
      ap (contents_as_of m.opened now.past.log) (sym next) ∙ ap (λ (n : ℕ). applied_updates (committed_updates (now.past.log n)) (contents_as_of m.opened now.past.log (u - 1))) next
      ∙ ap (λ (us : Updates). applied_updates us (contents_as_of m.opened now.past.log (u - 1))) updates ∙ ap (applied_updates e.updates) stays in
      let rest : u + (d.clock - u) ≡ d.clock = omega (arith, to) in
      let same : new ≡ applied_updates e.updates old =
      now.are ∙ ap (contents_as_of m.opened now.past.log) (sym rest)
      ∙ still_contents m.opened now.past.log u (d.clock - u)
      (λ t above within. none_at m sizes is c d v w old new was now f place replies (Wrote u) added grows entries refl t (omega (arith, above, from)) (omega (arith, within, rest)) (wrote_above t u above)) ∙ at_ticket in
      record {
        unaborted = refl;
        serial = record { runs = run.run; ends = told.ends; leaves = ap m.rows same ∙ run.state };
        writes = sym told.writes;
        installs = same ∙ run.contents;
      }

  pub runs_alone : (r : Verdict) → IsAdded m v w f place (record { place = place; replies = replies; verdict = r }) → ((t : ℕ) → times_committed t w.entries ≡ times_committed t v.entries + wrote_with t r) → is_abort r ≡ false
      → RunsAlone m f old new replies r
  runs_alone (Wrote u) added entries ended = wrote_alone u added entries
  runs_alone (Read n) added entries ended = read_alone n added entries
  runs_alone (Cancelled n) added entries ended = cancelled_alone n added entries
  runs_alone (Locked n p) added entries ended = absurd cc
  runs_alone (Changed n p u) added entries ended = absurd cc
