-- The numbers of a right abort line are small.
use Rattle.std.proofs.Common.{◌≡◌, ◌⊎◌, ℕ, zero, suc, ◌+◌, ◌-◌, ◌<◌, ◌≤◌, ◌^◌, List, [], ◌∷◌, length, refl, sym, ap, ◌∙◌, subst, Bool, true, false, cond, ◌==◌, Some, slice_get, arith, inl, inr}
use Rattle.std.specs.List.{All}
use Rattle.std.proofs.lemmas.Bool.Decides.{nat_tests}
use Rattle.std.proofs.lemmas.List.Elements.{All-head, All-tail}
use Rattle.std.proofs.lemmas.Option.{slice_get_within}
use Rattle.sto_model.specs.Run.{State}
use Rattle.sto_model.specs.Sizes.{part_count}
use Rattle.sto_lang.specs.Scripts.{Script, File}
use Rattle.sto_lang.specs.Sound.{IsSound}
use Rattle.sto_report_spec.specs.Orders.{TransactionPlace, transaction_at, count_in, positions_of, numbers_from, IsOrder}
use Rattle.sto_report_spec.specs.Replay.{Entry, run_at, is_writer, counted, entry_at, entries_from, opening_state}
use Rattle.sto_report_spec.specs.Aborts.{Cause, Locked, Changed, Abort, part_in}
use Rattle.sto_report_spec.specs.LawfulAborts.{writers_before, IsBefore}
use Rattle.sto_report_spec.specs.declared.ending.Ending.{Ending}
use Rattle.sto_report_spec.specs.declared.ending.Ending.TheVariants as endings
use Rattle.sto_checker.proofs.SoundRuns.{sound_runnable}
use Rattle.sto_checker.specs.Reading.{IsSmallCause, IsSmall}
use Rattle.sto_checker.specs.Right.{IsCauseOf, IsRightAlone}
use Rattle.sto_checker.specs.Written.{written_of}
use Rattle.sto_checker.proofs.Kept.{is_inside, length-written}
use Rattle.sto_checker.proofs.Declared.{few_parts}

Has : ℕ → List ℕ → Type 0
Has n [] = ⊥
Has n (m ∷ ns) = (m ≡ n) ⊎ Has n ns

Occurs : TransactionPlace → List TransactionPlace → Type 0
Occurs place [] = ⊥
Occurs place (p ∷ order) = (p ≡ place) ⊎ Occurs place order

has_number : (first count n : ℕ) → first ≤ n → n < first + count → Has n (numbers_from first count)
unfolding Has
has_number first zero n l k = absurd (omega (arith, l, k))
has_number first (suc count) n l k = by (eq_or first n l) (has_number (suc first) count n)
  where
    by : (first ≡ n) ⊎ (first < n) → (suc first ≤ n → n < suc first + count → Has n (numbers_from (suc first) count)) → (first ≡ n) ⊎ Has n (numbers_from (suc first) count)
    by (inl e) more = inl e
    by (inr h) more = inr (more (omega (arith, h)) (omega (arith, k)))

    eq_or : (a b : ℕ) → a ≤ b → (a ≡ b) ⊎ (a < b)
    eq_or zero zero h = inl refl
    eq_or zero (suc b) h = inr (omega arith)
    eq_or (suc a) zero h = absurd (omega (arith, h))
    eq_or (suc a) (suc b) h = cases (eq_or a b (omega (arith, h)))
      where
        cases : (a ≡ b) ⊎ (a < b) → (suc a ≡ suc b) ⊎ (suc a < suc b)
        cases (inl e) = inl (ap suc e)
        cases (inr g) = inr (omega (arith, g))

same_number : (a b : ℕ) → (a == b) ≡ true → a ≡ b
same_number a b e = grind (arith, nat_tests)

occurs : (t n : ℕ) (order : List TransactionPlace) → Has n (positions_of t order) → Occurs (t, n) order
unfolding Has Occurs
occurs t n [] h = absurd h
occurs t n (p ∷ order) h = by (p.0 == t) refl h (occurs t n order)
  where
    by : (b : Bool) → (p.0 == t) ≡ b → Has n (cond b (p.1 ∷ positions_of t order) (positions_of t order)) → (Has n (positions_of t order) → Occurs (t, n) order) → (p ≡ (t, n)) ⊎ Occurs (t, n) order
    by true e (inl g) more = inl (let same = same_number p.0 t e in λ i. (same i, g i))
    by true e (inr g) more = inr (more g)
    by false e g more = inr (more g)

up_to : (b : Bool) (w : ℕ) → counted b w ≤ w + 1
up_to true w = omega arith
up_to false w = omega arith

before_most : (e : Entry) (x : Ending) → writers_before e x ≤ e.writers
before_most e endings.Commit = omega arith
before_most e endings.Read = omega arith
before_most e endings.Cancel = omega arith

-- so many writers are before the transaction's own entry at most
bounded : (f : File) (w : ℕ) (st : State) (order : List TransactionPlace) (place : TransactionPlace) (k : ℕ) → Occurs place order → IsBefore (entries_from f w st order) place k → k ≤ w + length order
unfolding Occurs
bounded f w st [] place k o h = absurd o
bounded f w st (p ∷ order) place k o h = by o (bounded f (entry_at f w st p).writers (run_at f st p).after order place k)
  where
    by : (p ≡ place) ⊎ Occurs place order → (Occurs place order → IsBefore (entries_from f (entry_at f w st p).writers (run_at f st p).after order) place k → k ≤ (entry_at f w st p).writers + length order) → k ≤ w + length (p ∷ order)
    by (inl e) more =
        let own = All-head (λ (x : Entry). x.place ≡ place → k ≤ writers_before x x.ending) (entry_at f w st p) (entries_from f (entry_at f w st p).writers (run_at f st p).after order) h e in
        let most = before_most (entry_at f w st p) (entry_at f w st p).ending in
        let one = up_to (is_writer (transaction_at f p) (run_at f st p)) w in
        omega (arith, own, most, one)
    by (inr o) more =
        let rest = more o (All-tail (λ (x : Entry). x.place ≡ place → k ≤ writers_before x x.ending) (entry_at f w st p) (entries_from f (entry_at f w st p).writers (run_at f st p).after order) h) in
        let one = up_to (is_writer (transaction_at f p) (run_at f st p)) w in
        omega (arith, rest, one)

pub seen_few : (f : File) (order : List TransactionPlace) (place : TransactionPlace) (s : Script) (k : ℕ) → IsOrder f order → transaction_at f place ≡ Some s → IsBefore (entries_from f 0 (opening_state f) order) place k → k ≤ length order
seen_few f order place s k whole at h =
    let i = is_inside f place s at in
    let has = has_number 1 (count_in f.threads place.0) place.1 i.first (let l = i.last in omega (arith, l)) in
    let there = occurs place.0 place.1 order (subst (Has place.1) (sym (whole place.0)) has) in
    (let b = bounded f 0 (opening_state f) order place k there h in omega (arith, b))

-- all numbers of a right abort line are of 32 bits
pub right_small : (f : File) (order : List TransactionPlace) (a : Abort) → IsSound f → IsOrder f order → length order < 2 ^ 32 → IsRightAlone f order a → IsSmall a
right_small f order a sound whole few r = record {
  position =
      let i = is_inside f a.place r.script r.transaction in
      let l = i.last in
      let m = (sound_runnable f sound).few_transactions a.place.0 in
      omega (arith, l, m);
  seen = let k = seen_few f order a.place r.script a.seen whole r.transaction r.earlier in omega (arith, k, few);
  cause = by a.cause r.part.inside r.cause;
}
  where
    parts : part_count r.object.shape ≤ 65536
    parts = few_parts f (part_in a.cause).object r.object sound r.part.declared

    by : (c : Cause) → (part_in c).part < part_count r.object.shape → IsCauseOf f order a r.object c → IsSmallCause c
    by (Locked part) l h = let p = parts in omega (arith, l, p)
    by (Changed part by') l h =
        let p = parts in
        let k = seen_few f order a.place r.script by' whole r.transaction h.earlier in
        (omega (arith, l, p), omega (arith, k, few))
