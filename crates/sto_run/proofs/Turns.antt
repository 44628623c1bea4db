-- The order of a journal whose transactions were run one after the other.
use Rattle.std.specs.Prelude.{filter, nat_lt, if◌then◌else◌, Result, Ok, Err, IfOk}
use Rattle.std.specs.List.{All}
use Rattle.std.proofs.Common.{◌≡◌, ◌⊎◌, ℕ, zero, suc, ◌+◌, ◌<◌, ◌≤◌, List, [], ◌∷◌, ◌++◌, length, map, get_or, drop, refl, sym, ap, ap₂, ◌∙◌, subst, append_assoc, arith, Bool, true, false, true≢false, cond, ◌==◌, ◌&&◌, ◌||◌, eq-eqb, ne_eqb, inl, inr}
use Rattle.std.proofs.lemmas.Bool.{cases_eq, cases_lt, cases_order}
use Rattle.std.proofs.lemmas.Bool.Decides.{nat_tests}
use Rattle.std.proofs.lemmas.List.Elements.{All-head, All-tail, filter-append}
use Rattle.sto_part.specs.declared.NoMemory.{NoMemory}
use Rattle.sto_lang.specs.Scripts.{Script, File}
use Rattle.sto_report_spec.specs.Orders.{TransactionPlace, positions_of, numbers_from, count_in, IsOrder}
use Rattle.sto_report_spec.specs.Replay.{Entry}
use Rattle.sto_journal.specs.declared.journal.Journal.{Journal}
use Rattle.sto_journal.specs.Journals.{entry, places}
use Rattle.sto_run.specs.PlainLines.{AreLines}
use Rattle.sto_history.specs.Records.{Record, is_abort, is_finished, known_after, IsSince}
use Rattle.sto_history.specs.Counted.{finished_places, InThreads}
use Rattle.sto_serializability.specs.Merged.{key_of, is_before, AreInOrder, AreMerged}
use Rattle.sto_serializability.proofs.Chains.{Every, every}
use Rattle.sto_serializability.proofs.Pairs.{every_weaker, every_both, every_append, Later, later_append, all_pairs}
use Rattle.sto_serializability.proofs.Ordering.{key_rises, pairs_ordered, finished_ended, order_is}
use Rattle.sto_serializability.proofs.Replaying.{places_of}
use Rattle.sto_serializability.proofs.Working.{positions_append}
use Rattle.sto_run_threads.specs.Ordered.{StandsBefore, AreRising, AreSince, RunsInOrder}
use Rattle.sto_run_threads.proofs.Claiming.{count_case}
use Rattle.sto_run.specs.Alone.{places_in, places_from, all_places, RanAlone}
use Rattle.sto_run.proofs.Merged.{places_told}

-- of two places, the first is not of a later thread
abbrev IsNoLater : TransactionPlace → TransactionPlace → Type 0
IsNoLater p q = p.0 ≤ q.0

-- The positions of a thread.

own_first : (p : TransactionPlace) (ps : List TransactionPlace) → positions_of p.0 (p ∷ ps) ≡ p.1 ∷ positions_of p.0 ps
own_first p ps = ap (λ (b : Bool). cond b (p.1 ∷ positions_of p.0 ps) (positions_of p.0 ps)) (eq-eqb p.0 p.0 refl)

other_first : (thread : ℕ) (p : TransactionPlace) (ps : List TransactionPlace) → (p.0 ≡ thread → ⊥) → positions_of thread (p ∷ ps) ≡ positions_of thread ps
other_first thread p ps other = ap (λ (b : Bool). cond b (p.1 ∷ positions_of thread ps) (positions_of thread ps)) (ne_eqb p.0 thread other)

none_below : (thread : ℕ) (ps : List TransactionPlace) → Every (λ (p : TransactionPlace). thread < p.0) ps → positions_of thread ps ≡ []
none_below thread [] h = refl
none_below thread (p ∷ ps) h = let l = h.0 in other_first thread p ps (λ is. absurd (omega (arith, is, l))) ∙ none_below thread ps h.1

-- a first place of a thread below all others
first_below : (p : TransactionPlace) (ps qs : List TransactionPlace) → Every (λ (q : TransactionPlace). p.0 < q.0) qs → positions_of p.0 (p ∷ ps) ≡ positions_of p.0 qs → ⊥
first_below p ps qs h same = absurd (let l = ap length (sym (own_first p ps) ∙ same ∙ none_below p.0 qs h) in omega (arith, l))

-- two lists of places in rising thread that have the same positions of each thread are one
same_order : (ps qs : List TransactionPlace) → Later IsNoLater ps → Later IsNoLater qs → ((thread : ℕ) → positions_of thread ps ≡ positions_of thread qs) → ps ≡ qs
same_order [] [] h k same = refl
same_order [] (q ∷ qs) h k same = absurd (let l = ap length (same q.0 ∙ own_first q qs) in omega (arith, l))
same_order (p ∷ ps) [] h k same = absurd (let l = ap length (sym (own_first p ps) ∙ same p.0) in omega (arith, l))
same_order (p ∷ ps) (q ∷ qs) h k same = elim (cases_order p.0 q.0) [
  | inl is ↦
      let heads : p.1 ∷ positions_of p.0 ps ≡ q.1 ∷ positions_of p.0 qs =
      sym (own_first p ps) ∙ same p.0 ∙ subst (λ (t : ℕ). positions_of t (q ∷ qs) ≡ q.1 ∷ positions_of t qs) (sym is) (own_first q qs) in
      ap₂ (λ (x : TransactionPlace) (xs : List TransactionPlace). x ∷ xs) (λ i. (is i, ap (λ (l : List ℕ). get_or l 0 0) heads i))
      (same_order ps qs h.1 k.1 (λ thread. elim (cases_eq p.0 thread) [
        | inl own ↦ subst (λ (t : ℕ). positions_of t ps ≡ positions_of t qs) own (ap (λ (l : List ℕ). drop 1 l) heads)
        | inr other ↦ sym (other_first thread p ps other) ∙ same thread ∙ other_first thread q qs (λ e. other (is ∙ e))
      ]))
  | inr (inl low) ↦
      absurd (first_below p ps (q ∷ qs) (low, every_weaker (λ (x : TransactionPlace). q.0 ≤ x.0) (λ (x : TransactionPlace). p.0 < x.0) (λ x l. omega (arith, low, l)) qs k.0) (same p.0))
  | inr (inr low) ↦
      absurd (first_below q qs (p ∷ ps) (low, every_weaker (λ (x : TransactionPlace). p.0 ≤ x.0) (λ (x : TransactionPlace). q.0 < x.0) (λ x l. omega (arith, low, l)) ps h.0) (sym (same q.0)))
]

-- The order of all places.

in_own : (thread first count : ℕ) → positions_of thread (places_in thread first count) ≡ numbers_from first count
in_own thread first zero = refl
in_own thread first (suc count) = own_first (thread, first) (places_in thread (suc first) count) ∙ ap (λ (l : List ℕ). first ∷ l) (in_own thread (suc first) count)

in_other : (u thread first count : ℕ) → (thread ≡ u → ⊥) → positions_of u (places_in thread first count) ≡ []
in_other u thread first zero other = refl
in_other u thread first (suc count) other = other_first u (thread, first) (places_in thread (suc first) count) other ∙ in_other u thread (suc first) count other

all_from : (least thread first count : ℕ) → least ≤ thread → Every (λ (p : TransactionPlace). least ≤ p.0) (places_in thread first count)
all_from least thread first zero l = tt
all_from least thread first (suc count) l = (l, all_from least thread (suc first) count l)

from_least : (least first : ℕ) (threads : List (List Script)) → least ≤ first → Every (λ (p : TransactionPlace). least ≤ p.0) (places_from first threads)
from_least least first [] l = tt
from_least least first (scripts ∷ threads) l =
    every_append (λ (p : TransactionPlace). least ≤ p.0) (places_in first 1 (length scripts)) (places_from (suc first) threads)
    (all_from least first 1 (length scripts) l) (from_least least (suc first) threads (omega (arith, l)))

in_one_thread : (thread first count : ℕ) → Later IsNoLater (places_in thread first count)
in_one_thread thread first zero = tt
in_one_thread thread first (suc count) = (all_from thread thread (suc first) count (omega arith), in_one_thread thread (suc first) count)

threads_rise : (first : ℕ) (threads : List (List Script)) → Later IsNoLater (places_from first threads)
threads_rise first [] = tt
threads_rise first (scripts ∷ threads) =
    later_append IsNoLater (places_in first 1 (length scripts)) (places_from (suc first) threads) (in_one_thread first 1 (length scripts)) (threads_rise (suc first) threads)
    (beside first 1 (length scripts))
  where
    beside : (thread position count : ℕ) → Every (λ (p : TransactionPlace). Every (IsNoLater p) (places_from (suc thread) threads)) (places_in thread position count)
    beside thread position zero = tt
    beside thread position (suc count) = (from_least thread (suc thread) threads (omega arith), beside thread (suc position) count)

positions_from : (first : ℕ) (threads : List (List Script)) (k u : ℕ) → u ≡ first + k → positions_of u (places_from first threads) ≡ numbers_from 1 (count_in threads k)
positions_from first [] k u is = refl
positions_from first (scripts ∷ threads) zero u is =
    let e : first ≡ u = omega (arith, is) in
    positions_append u (places_in first 1 (length scripts)) (places_from (suc first) threads)
    ∙ ap₂ (λ (xs ys : List ℕ). xs ++ ys) (subst (λ (t : ℕ). positions_of u (places_in t 1 (length scripts)) ≡ numbers_from 1 (length scripts)) (sym e) (in_own u 1 (length scripts)))
    (none_below u (places_from (suc first) threads)
    (every_weaker (λ (p : TransactionPlace). suc first ≤ p.0) (λ (p : TransactionPlace). u < p.0) (λ p l. omega (arith, l, is)) (places_from (suc first) threads) (from_least (suc first) (suc first) threads (omega arith))))
    ∙ nothing_more (numbers_from 1 (length scripts))
  where
    nothing_more : (l : List ℕ) → l ++ [] ≡ l
    nothing_more [] = refl
    nothing_more (x ∷ l) = ap (λ (t : List ℕ). x ∷ t) (nothing_more l)
positions_from first (scripts ∷ threads) (suc k) u is =
    positions_append u (places_in first 1 (length scripts)) (places_from (suc first) threads)
    ∙ ap (λ (xs : List ℕ). xs ++ positions_of u (places_from (suc first) threads)) (in_other u first 1 (length scripts) (λ e. absurd (omega (arith, e, is))))
    ∙ positions_from (suc first) threads k u (omega (arith, is))

-- an order of the file in rising thread is that of all places
rising_order : (file : File) (ps : List TransactionPlace) → IsOrder file ps → Later IsNoLater ps → ps ≡ all_places file
rising_order file ps order rise =
    same_order ps (all_places file) rise (threads_rise 0 file.threads) (λ thread. order thread ∙ sym (positions_from 0 file.threads thread thread (omega arith)))

-- An order of a file with at most one thread.
none_later : (ps : List TransactionPlace) → ((thread : ℕ) → 1 ≤ thread → positions_of thread ps ≡ []) → Every (λ (p : TransactionPlace). p.0 ≤ 0) ps
none_later [] h = tt
none_later (p ∷ ps) h = (low, none_later ps (λ thread l. sym (other_first thread p ps (λ is. absurd (omega (arith, is, l, low)))) ∙ h thread l))
  where
    low : p.0 ≤ 0
    low = elim (cases_lt 0 p.0) [
      | inl l ↦ absurd (let k = ap length (sym (own_first p ps) ∙ h p.0 l) in omega (arith, k))
      | inr l ↦ l
    ]

all_first : (ps : List TransactionPlace) → Every (λ (p : TransactionPlace). p.0 ≤ 0) ps → Later IsNoLater ps
all_first [] h = tt
all_first (p ∷ ps) h =
    let low = h.0 in (every_weaker (λ (q : TransactionPlace). q.0 ≤ 0) (IsNoLater p) (λ q l. omega (arith, low, l)) ps h.1, all_first ps h.1)

pub one_thread_order : (file : File) (ps : List TransactionPlace) → length file.threads ≤ 1 → IsOrder file ps → ps ≡ all_places file
one_thread_order file ps few order =
    rising_order file ps order (all_first ps (none_later ps (λ thread l. order thread ∙ ap (numbers_from 1) (none thread l))))
  where
    none : (thread : ℕ) → 1 ≤ thread → count_in file.threads thread ≡ 0
    none thread l = elim (count_case file.threads thread) [
      | inl in_file ↦ absurd (omega (arith, in_file, few, l))
      | inr e ↦ e
    ]

-- Records that were made one after the other.

-- an item in the middle
in_the_middle : {X : Type 0} (P : X → Type 0) (xs : List X) (x : X) (ys : List X) → Every P (xs ++ x ∷ ys) → P x
in_the_middle P [] x ys h = h.0
in_the_middle P (y ∷ xs) x ys h = in_the_middle P xs x ys h.1

after_one : (first : List Record) (r : Record) (after new : List Record) → AreSince (first ++ r ∷ after) new → Every (λ (s : Record). IsSince (known_after r.verdict) s.verdict) new
after_one first r after [] h = tt
after_one first r after (s ∷ new) h = (
  in_the_middle (λ (b : Record). IsSince (known_after b.verdict) s.verdict) first r after (every (λ (b : Record). IsSince (known_after b.verdict) s.verdict) (first ++ r ∷ after) h.0),
  after_one first r (after ++ s ∷ []) new (subst (λ (l : List Record). AreSince l new) (append_assoc first (r ∷ after) (s ∷ [])) h.1),
)

later_since : (before rs : List Record) → AreSince before rs → Later (λ (r s : Record). IsSince (known_after r.verdict) s.verdict) rs
later_since before [] h = tt
later_since before (r ∷ rs) h = (after_one before r [] rs h.1, later_since (before ++ r ∷ []) rs h.1)

-- what is true of later ones is true of those that pass a test
every_filter : (P : Record → Type 0) (test : Record → Bool) (rs : List Record) → Every P rs → Every P (filter test rs)
every_filter P test [] h = tt
every_filter P test (r ∷ rs) h = by (test r) (every_filter P test rs h.1)
  where
    by : (b : Bool) → Every P (filter test rs) → Every P (cond b (r ∷ filter test rs) (filter test rs))
    by true k = (h.0, k)
    by false k = k

later_filter : (C : Record → Record → Type 0) (test : Record → Bool) (rs : List Record) → Later C rs → Later C (filter test rs)
later_filter C test [] h = tt
later_filter C test (r ∷ rs) h = by (test r) (later_filter C test rs h.1)
  where
    by : (b : Bool) → Later C (filter test rs) → Later C (cond b (r ∷ filter test rs) (filter test rs))
    by true k = (every_filter (C r) test rs h.0, k)
    by false k = k

-- rising places are those of records that stand before later ones
every_place : (p : TransactionPlace) (rs : List Record) → Every (StandsBefore p) (places_of rs) → Every (λ (s : Record). StandsBefore p s.place) rs
every_place p [] h = tt
every_place p (r ∷ rs) h = (h.0, every_place p rs h.1)

later_places : (rs : List Record) → AreRising (places_of rs) → Later (λ (r s : Record). StandsBefore r.place s.place) rs
later_places [] h = tt
later_places (r ∷ rs) h = (every_place r.place rs (every (StandsBefore r.place) (places_of rs) h.0), later_places rs h.1)

-- the first of two comes before the other in the journal
comes_first : (r s : Record) → key_of r.verdict ≤ key_of s.verdict → StandsBefore r.place s.place → is_before r s ≡ true
comes_first r s k (inl l) = grind (arith, nat_tests)
comes_first r s k (inr l) = let e = l.0 in let f = l.1 in grind (arith, nat_tests)

-- where the second does not come before the first, the first is not of a later thread
abbrev Sorts : Record → Record → Type 0
Sorts r s = is_before s r ≡ false → r.place.0 ≤ s.place.0

no_later : (p q : TransactionPlace) → StandsBefore p q → p.0 ≤ q.0
no_later p q (inl l) = omega (arith, l)
no_later p q (inr l) = let e = l.0 in omega (arith, e)

sorts : (rs : List Record) → Every (λ (r : Record). is_abort r.verdict ≡ false) rs → Later (λ (r s : Record). IsSince (known_after r.verdict) s.verdict) rs
    → Later (λ (r s : Record). StandsBefore r.place s.place) rs → Later (λ r s. Sorts r s × Sorts s r) rs
sorts [] ended since before = tt
sorts (r ∷ rs) ended since before = (with_all rs ended.1 since.0 before.0, sorts rs ended.1 since.1 before.1)
  where
    with_all : (xs : List Record) → Every (λ (s : Record). is_abort s.verdict ≡ false) xs → Every (λ (s : Record). IsSince (known_after r.verdict) s.verdict) xs
        → Every (λ (s : Record). StandsBefore r.place s.place) xs → Every (λ s. Sorts r s × Sorts s r) xs
    with_all [] a b c = tt
    with_all (s ∷ xs) a b c = (
      (
        λ never. no_later r.place s.place c.0,
        λ never. absurd (true≢false (sym (comes_first r s (key_rises r.verdict s.verdict ended.0 a.0 b.0) c.0) ∙ never)),
      ),
      with_all xs a.1 b.1 c.1,
    )

sorted_rise : (all rs : List Record) → ((P : Record → Type 0) → Every P all → Every P rs) → Every (λ r. Every (Sorts r) all) all → AreInOrder rs → Later IsNoLater (places_of rs)
sorted_rise all [] sub h o = tt
sorted_rise all (r ∷ rs) sub h o = (
  here rs (sub (Sorts r) (sub (λ x. Every (Sorts x) all) h).0).1 (every (λ s. is_before s r ≡ false) rs o.0),
  sorted_rise all rs (λ P k. (sub P k).1) h o.1,
)
  where
    here : (xs : List Record) → Every (Sorts r) xs → Every (λ s. is_before s r ≡ false) xs → Every (IsNoLater r.place) (places_of xs)
    here [] a b = tt
    here (s ∷ xs) a b = (a.0 b.0, here xs a.1 b.1)

-- Records that were made one after the other, in rising thread and then position, stand so in the journal.
pub turn_order : (file : File) (rs ordered : List Record) → AreSince [] rs → AreRising (finished_places rs) → AreMerged rs ordered → IsOrder file (places_of ordered) → places_of ordered ≡ all_places file
turn_order file rs ordered since rising merged order =
    let ended : Every (λ (r : Record). is_abort r.verdict ≡ false) (filter is_finished rs) = every (λ (r : Record). is_abort r.verdict ≡ false) (filter is_finished rs) (finished_ended rs) in
    let beside : Later (λ r s. Sorts r s × Sorts s r) (filter is_finished rs) =
    sorts (filter is_finished rs) ended (later_filter (λ (r s : Record). IsSince (known_after r.verdict) s.verdict) is_finished rs (later_since [] rs since))
    (later_places (filter is_finished rs) rising) in
    let pairs : Every (λ r. Every (Sorts r) ordered) ordered =
    pairs_ordered Sorts (filter is_finished rs) ordered merged.same (all_pairs Sorts (λ r never. omega arith) (filter is_finished rs) beside) in
    rising_order file (places_of ordered) order (sorted_rise ordered ordered (λ P h. h) pairs merged.rising)

pub journal_order : (file : File) (j : Journal) (rs : List Record) → InThreads rs → IsOrder file (finished_places rs) → AreLines rs (map entry j.lines.items)
    → (from to : TransactionPlace) → RunsInOrder from to [] rs → places j.lines.items ≡ all_places file
journal_order file j rs threads order lines from to turn =
    ap (map (λ (e : Entry). e.place)) lines.lines ∙ places_told rs lines.ordered
    ∙ turn_order file rs lines.ordered (subst (AreSince []) (sym turn.whole) turn.since) (subst (λ (l : List Record). AreRising (finished_places l)) (sym turn.whole) turn.rising)
    lines.merged (order_is file rs lines.ordered threads order lines.merged)

-- what two clauses say of a journal
pub ran_alone : (file : File) (r : Result Journal NoMemory) → IfOk r (λ j. j.aborts.items ≡ []) → IfOk r (λ j. places j.lines.items ≡ all_places file) → IfOk r (RanAlone file)
ran_alone file (Ok j) none order = record { order = order; none = none }
ran_alone file (Err e) none order = tt
