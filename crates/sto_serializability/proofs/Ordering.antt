-- The order of the journal is an order of the file.
use Rattle.std.specs.Prelude.{if◌then◌else◌, filter, not}
use Rattle.std.specs.List.{All, sum_by}
use Rattle.std.specs.List.Sorted.{IsPermutation}
use Rattle.std.proofs.Common.{◌≡◌, ℕ, zero, suc, ◌+◌, ◌<◌, ◌≤◌, List, [], ◌∷◌, map, refl, sym, ap, ◌∙◌, subst, arith, Bool, true, false, cond, ◌==◌, ◌&&◌, inl, inr, true≢false, eqb-true}
use Rattle.std.proofs.lemmas.Bool.{cases_lt, cases_Bool}
use Rattle.std.proofs.lemmas.Bool.Decides.{nat_tests}
use Rattle.std.proofs.lemmas.List.Elements.{All-head, All-tail, All-filter, All-weaker, filter_passes}
use Rattle.std.proofs.lemmas.List.Sums.{sum_by-cons}
use Rattle.std.proofs.lemmas.List.Sorted.{sum_by-IsPermutation, All-permutation}
use Rattle.sto_lang.specs.Scripts.{Script, File}
use Rattle.sto_report_spec.specs.Orders.{TransactionPlace, positions_of, numbers_from, count_in, IsOrder}
use Rattle.sto_history.specs.Records.{Verdict, Wrote, Read, Cancelled, Locked, Changed, Record, is_abort, is_finished, known_after, IsSince}
use Rattle.sto_history.specs.Counted.{Follows, InThreads, finished_places}
use Rattle.sto_serializability.specs.Merged.{key_of, is_before, AreInOrder, AreMerged}
use Rattle.sto_serializability.proofs.Chains.{Every, every}
use Rattle.sto_serializability.proofs.Pairs.{all_of, every_weaker, every_both, Later, all_pairs, hit, occurrences, Rises, same_rising}
use Rattle.sto_serializability.proofs.Replaying.{places_of}

-- what follows a record in its thread comes after it
pub key_rises : (v w : Verdict) → is_abort v ≡ false → is_abort w ≡ false → IsSince (known_after v) w → key_of v ≤ key_of w
key_rises (Wrote t) (Wrote u) a b l = omega (arith, l)
key_rises (Wrote t) (Read n) a b l = omega (arith, l)
key_rises (Wrote t) (Cancelled n) a b l = omega (arith, l)
key_rises (Wrote t) (Locked n p) a b l = absurd cc
key_rises (Wrote t) (Changed n p u) a b l = absurd cc
key_rises (Read n) (Wrote u) a b l = omega (arith, l)
key_rises (Read n) (Read i) a b l = omega (arith, l)
key_rises (Read n) (Cancelled i) a b l = omega (arith, l)
key_rises (Read n) (Locked i p) a b l = absurd cc
key_rises (Read n) (Changed i p u) a b l = absurd cc
key_rises (Cancelled n) (Wrote u) a b l = omega (arith, l)
key_rises (Cancelled n) (Read i) a b l = omega (arith, l)
key_rises (Cancelled n) (Cancelled i) a b l = omega (arith, l)
key_rises (Cancelled n) (Locked i p) a b l = absurd cc
key_rises (Cancelled n) (Changed i p u) a b l = absurd cc
key_rises (Locked n p) w a b l = absurd cc
key_rises (Changed n p u) w a b l = absurd cc

before_in_thread : (r s : Record) → r.place.0 ≡ s.place.0 → r.place.1 < s.place.1 → key_of r.verdict ≤ key_of s.verdict → is_before r s ≡ true
before_in_thread r s e l k = grind (arith, nat_tests)

-- of one thread, the one with the lower position comes before the other
abbrev Comes : Record → Record → Type 0
Comes r s = r.place.0 ≡ s.place.0 → s.place.1 < r.place.1 → is_before s r ≡ true

both_ways : (r s : Record) → is_abort r.verdict ≡ false → is_abort s.verdict ≡ false → (r.place.0 ≡ s.place.0 → Follows r s) → Comes r s × Comes s r
both_ways r s a b f = (
  λ e l. absurd (let k = (f e).position in omega (arith, k, l)),
  λ e l. before_in_thread r s (sym e) l (key_rises r.verdict s.verdict a b (f (sym e)).since),
)

-- the records that are not aborted

in_threads_finished : (rs : List Record) → InThreads rs → InThreads (filter is_finished rs)
in_threads_finished [] h = tt
in_threads_finished (r ∷ rs) h = by (is_finished r) (in_threads_finished rs h.1)
  where
    by : (b : Bool) → InThreads (filter is_finished rs) → InThreads (cond b (r ∷ filter is_finished rs) (filter is_finished rs))
    by true k = (All-filter is_finished (λ (s : Record). r.place.0 ≡ s.place.0 → Follows r s) rs h.0, k)
    by false k = k

not_false : (b : Bool) → not b ≡ true → b ≡ false
not_false true h = absurd cc
not_false false h = refl

pub finished_ended : (rs : List Record) → All (λ (r : Record). is_abort r.verdict ≡ false) (filter is_finished rs)
finished_ended rs =
    All-weaker (λ (r : Record). is_finished r ≡ true) (λ (r : Record). is_abort r.verdict ≡ false) (λ r h. not_false (is_abort r.verdict) h) (filter is_finished rs) (filter_passes is_finished rs)

later_both : (rs : List Record) → Every (λ (r : Record). is_abort r.verdict ≡ false) rs → InThreads rs → Later (λ r s. Comes r s × Comes s r) rs
later_both [] h k = tt
later_both (r ∷ rs) h k = (
  every_both (λ (s : Record). is_abort s.verdict ≡ false) (λ (s : Record). r.place.0 ≡ s.place.0 → Follows r s) (λ s. Comes r s × Comes s r)
      (λ s b f. both_ways r s h.0 b f) rs h.1
      (every (λ (s : Record). r.place.0 ≡ s.place.0 → Follows r s) rs k.0),
  later_both rs h.1 k.1,
)

-- a fact of all pairs is one of all pairs in another order
pub pairs_ordered : (C : Record → Record → Type 0) (xs ys : List Record) → IsPermutation xs ys → Every (λ r. Every (C r) xs) xs → Every (λ r. Every (C r) ys) ys
pairs_ordered C xs ys same h =
    every (λ r. Every (C r) ys) ys
    (All-permutation (λ r. Every (C r) ys) xs ys same
    (all_of (λ r. Every (C r) ys) xs
    (every_weaker (λ r. Every (C r) xs) (λ r. Every (C r) ys) (λ r k. every (C r) ys (All-permutation (C r) xs ys same (all_of (C r) xs k))) xs h)))

-- in the order of the journal positions do not fall in a thread
abbrev Climbs : Record → Record → Type 0
Climbs r s = r.place.0 ≡ s.place.0 → r.place.1 ≤ s.place.1

climbs : (r s : Record) → is_before s r ≡ false → Comes r s → Climbs r s
climbs r s never c e = elim (cases_lt s.place.1 r.place.1) [
  | inl l ↦ absurd (true≢false (sym (c e l) ∙ never))
  | inr l ↦ l
]

later_climbs : (all rs : List Record) → ((P : Record → Type 0) → Every P all → Every P rs) → Every (λ r. Every (Comes r) all) all → AreInOrder rs → Later Climbs rs
later_climbs all [] sub h o = tt
later_climbs all (r ∷ rs) sub h o = (
  every_both (λ s. is_before s r ≡ false) (Comes r) (Climbs r) (λ s never c. climbs r s never c) rs (every (λ s. is_before s r ≡ false) rs o.0)
      (sub (Comes r) (sub (λ x. Every (Comes x) all) h).0).1,
  later_climbs all rs (λ P k. (sub P k).1) h o.1,
)

-- the positions of one thread

positions_above : (thread n : ℕ) (rs : List Record) → Every (λ (s : Record). thread ≡ s.place.0 → n ≤ s.place.1) rs → Every (λ y. n ≤ y) (positions_of thread (places_of rs))
positions_above thread n [] h = tt
positions_above thread n (r ∷ rs) h = by (r.place.0 == thread) refl (positions_above thread n rs h.1)
  where
    by : (b : Bool) → r.place.0 == thread ≡ b → Every (λ y. n ≤ y) (positions_of thread (places_of rs))
        → Every (λ y. n ≤ y) (cond b (r.place.1 ∷ positions_of thread (places_of rs)) (positions_of thread (places_of rs)))
    by true is k = (h.0 (sym (eqb-true r.place.0 thread is)), k)
    by false is k = k

positions_rise : (thread : ℕ) (rs : List Record) → Later Climbs rs → Rises (positions_of thread (places_of rs))
positions_rise thread [] h = tt
positions_rise thread (r ∷ rs) h = by (r.place.0 == thread) refl (positions_rise thread rs h.1)
  where
    by : (b : Bool) → r.place.0 == thread ≡ b → Rises (positions_of thread (places_of rs))
        → Rises (cond b (r.place.1 ∷ positions_of thread (places_of rs)) (positions_of thread (places_of rs)))
    by true is k = (
      positions_above thread r.place.1 rs
          (every_weaker (Climbs r) (λ (s : Record). thread ≡ s.place.0 → r.place.1 ≤ s.place.1) (λ s c e. c (eqb-true r.place.0 thread is ∙ e)) rs h.0),
      k,
    )
    by false is k = k

abbrev stands_there : ℕ → ℕ → Record → ℕ
stands_there thread x r = if r.place.0 == thread then hit x r.place.1 else 0

occurs_sum : (thread x : ℕ) (rs : List Record) → occurrences x (positions_of thread (places_of rs)) ≡ sum_by (stands_there thread x) rs
occurs_sum thread x [] = refl
occurs_sum thread x (r ∷ rs) = by (r.place.0 == thread) refl (occurs_sum thread x rs)
  where
    by : (b : Bool) → r.place.0 == thread ≡ b → occurrences x (positions_of thread (places_of rs)) ≡ sum_by (stands_there thread x) rs
        → occurrences x (cond b (r.place.1 ∷ positions_of thread (places_of rs)) (positions_of thread (places_of rs))) ≡ sum_by (stands_there thread x) (r ∷ rs)
    by true is k =
        let e = sum_by-cons (stands_there thread x) r rs in
        let here : stands_there thread x r ≡ hit x r.place.1 = ap (λ (b : Bool). if b then hit x r.place.1 else 0) is in
        omega (arith, e, here, k)
    by false is k =
        let e = sum_by-cons (stands_there thread x) r rs in
        let here : stands_there thread x r ≡ 0 = ap (λ (b : Bool). if b then hit x r.place.1 else 0) is in
        omega (arith, e, here, k)

numbers_above : (n first count : ℕ) → n ≤ first → Every (λ y. n ≤ y) (numbers_from first count)
numbers_above n first zero l = tt
numbers_above n first (suc count) l = (l, numbers_above n (suc first) count (omega (arith, l)))

numbers_rise : (first count : ℕ) → Rises (numbers_from first count)
numbers_rise first zero = tt
numbers_rise first (suc count) = (numbers_above first (suc first) count (omega arith), numbers_rise (suc first) count)

-- The order of the journal is an order of the file.
pub order_is : (file : File) (rs ordered : List Record) → InThreads rs → IsOrder file (finished_places rs) → AreMerged rs ordered → IsOrder file (places_of ordered)
order_is file rs ordered threads order merged thread =
    let ended : Every (λ (r : Record). is_abort r.verdict ≡ false) (filter is_finished rs) = every (λ (r : Record). is_abort r.verdict ≡ false) (filter is_finished rs) (finished_ended rs) in
    let pairs : Every (λ r. Every (Comes r) ordered) ordered =
    pairs_ordered Comes (filter is_finished rs) ordered merged.same
    (all_pairs Comes (λ r e l. absurd (omega (arith, l))) (filter is_finished rs) (later_both (filter is_finished rs) ended (in_threads_finished rs threads))) in
    let count : ℕ = count_in file.threads thread in
    same_rising (positions_of thread (places_of ordered)) (numbers_from 1 count)
    (positions_rise thread ordered (later_climbs ordered ordered (λ P h. h) pairs merged.rising))
    (numbers_rise 1 count)
    (λ x.
    occurs_sum thread x ordered
    ∙ sum_by-IsPermutation (stands_there thread x) (filter is_finished rs) ordered merged.same
    ∙ sym (occurs_sum thread x (filter is_finished rs))
    ∙ ap (occurrences x) (order thread))
