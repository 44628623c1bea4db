-- Aborted records that are sorted by thread, each thread's in their order, are those of the threads one after the other.
use Rattle.std.specs.Prelude.{filter, not, nat_lt, slice_index_or}
use Rattle.std.specs.List.{All, flat_map}
use Rattle.std.specs.List.Sorted.{IsNonDecreasingBy, IsStableByKey, ties}
use Rattle.std.specs.Ordering.{nat_cmp, is_lt}
use Rattle.std.proofs.Common.{◌≡◌, ℕ, zero, suc, ◌+◌, ◌<◌, ◌≤◌, List, [], ◌∷◌, ◌++◌, length, map, refl, sym, ap, ◌∙◌, subst, arith, Bool, true, false, cond, ◌==◌, ◌&&◌, inl, inr, append_assoc, eq-eqb, ne_eqb}
use Rattle.std.proofs.lemmas.Bool.{cases_eq}
use Rattle.std.proofs.lemmas.Bool.Decides.{nat_tests}
use Rattle.std.proofs.lemmas.List.Elements.{All-from_get_or, filter_agree}
use Rattle.sto_model.specs.PlainReplies.{plain_reply}
use Rattle.sto_lang.specs.Objects.{Declaration}
use Rattle.sto_report_spec.specs.Aborts.{Abort}
use Rattle.sto_report_spec.specs.Aborts as aborts
use Rattle.sto_transaction.specs.Records.{is_abort, writers_up_to}
use Rattle.sto_transaction.specs.Records as plainly
use Rattle.sto_serializability.specs.Merged.{part_named, lines_of_abort, aborts_of_thread, aborts_from}
use Rattle.sto_serializability.proofs.Chains.{Every, every}
use Rattle.sto_transaction.specs.declared.record.Record.{Record}
use Rattle.sto_attempt_log.specs.declared.verdict.Verdict.{Verdict}
use Rattle.sto_attempt_log.specs.declared.verdict.Verdict.TheVariants.{Wrote, Read, Cancelled, Locked, Changed}
use Rattle.sto_transaction.specs.Plain.{verdict, plain}
use Rattle.sto_run.specs.Tickets.{up_to}
use Rattle.sto_run.specs.Splits.{was_aborted}
use Rattle.sto_run.specs.PlainAborts.{aborts_by, aborts_at}

-- those of one thread
abbrev keep : ℕ → List Record → List Record
keep t rs = filter (λ (r : Record). r.thread == t) rs

module _ (f : Record → List Abort) where
  by_threads : List Record → ℕ → ℕ → List Abort
  by_threads rs first zero = []
  by_threads rs first (suc count) = flat_map f (keep first rs) ++ by_threads rs (suc first) count

  keep_not : (t : ℕ) (r : Record) (rs : List Record) → (r.thread ≡ t → ⊥) → keep t (r ∷ rs) ≡ keep t rs
  keep_not t r rs ne = ap (λ (b : Bool). cond b (r ∷ keep t rs) (keep t rs)) (ne_eqb r.thread t ne)

  keep_it : (t : ℕ) (r : Record) (rs : List Record) → r.thread ≡ t → keep t (r ∷ rs) ≡ r ∷ keep t rs
  keep_it t r rs e = ap (λ (b : Bool). cond b (r ∷ keep t rs) (keep t rs)) (eq-eqb r.thread t e)

  keep_none : (t : ℕ) (rs : List Record) → Every (λ (r : Record). t < r.thread) rs → keep t rs ≡ []
  keep_none t [] h = refl
  keep_none t (r ∷ rs) h = keep_not t r rs (λ e. let l = h.0 in omega (arith, l, e)) ∙ keep_none t rs h.1

  skip : (r : Record) (rs : List Record) (first count : ℕ) → r.thread < first → by_threads (r ∷ rs) first count ≡ by_threads rs first count
  unfolding by_threads
  skip r rs first zero l = refl
  skip r rs first (suc count) l =
      ap (λ (k : List Record). flat_map f k ++ by_threads (r ∷ rs) (suc first) count) (keep_not first r rs (λ e. omega (arith, l, e)))
      ∙ ap (λ (k : List Abort). flat_map f (keep first rs) ++ k) (skip r rs (suc first) count (omega (arith, l)))

  above : (n : ℕ) (r : Record) (rs : List Record) → n < r.thread → Every (λ (z : Record). r.thread ≤ z.thread) rs → Every (λ (z : Record). n < z.thread) rs
  above n r [] l h = tt
  above n r (z ∷ rs) l h = ((let k = h.0 in omega (arith, l, k)), above n r rs l h.1)

  enter : (r : Record) (rs : List Record) (first count : ℕ) → first ≤ r.thread → r.thread < first + count → Every (λ (z : Record). r.thread ≤ z.thread) rs
      → by_threads (r ∷ rs) first count ≡ f r ++ by_threads rs first count
  unfolding by_threads
  enter r rs first zero l u h = absurd (omega (arith, l, u))
  enter r rs first (suc count) l u h = elim (cases_eq r.thread first) [
    | inl e ↦
        ap (λ (k : List Record). flat_map f k ++ by_threads (r ∷ rs) (suc first) count) (keep_it first r rs e)
        ∙ ap (λ (k : List Abort). (f r ++ flat_map f (keep first rs)) ++ k) (skip r rs (suc first) count (omega (arith, e)))
        ∙ append_assoc (f r) (flat_map f (keep first rs)) (by_threads rs (suc first) count)
    | inr ne ↦
        let higher : first < r.thread = strictly first r.thread l ne in
        let none : keep first rs ≡ [] = keep_none first rs (above first r rs higher h) in
        ap (λ (k : List Record). flat_map f k ++ by_threads (r ∷ rs) (suc first) count) (keep_not first r rs ne ∙ none)
        ∙ enter r rs (suc first) count (omega (arith, higher)) (omega (arith, u)) h
        ∙ ap (λ (k : List Record). f r ++ (flat_map f k ++ by_threads rs (suc first) count)) (sym none)
  ]
    where
      strictly : (a b : ℕ) → a ≤ b → (b ≡ a → ⊥) → a < b
      strictly a b le other = grind (arith, nat_tests)

  abbrev Ascends : List Record → Type 0
  Ascends [] = Unit {0}
  Ascends (r ∷ rs) = Every (λ (z : Record). r.thread ≤ z.thread) rs × Ascends rs

  none_at : (first count : ℕ) → by_threads [] first count ≡ []
  unfolding by_threads
  none_at first zero = refl
  none_at first (suc count) = none_at (suc first) count

  in_threads : (rs : List Record) (count : ℕ) → Ascends rs → Every (λ (r : Record). r.thread < count) rs → flat_map f rs ≡ by_threads rs 0 count
  in_threads [] count h u = sym (none_at 0 count)
  in_threads (r ∷ rs) count h u =
      ap (λ (k : List Abort). f r ++ k) (in_threads rs count h.1 u.1)
      ∙ sym (enter r rs 0 count (omega arith) (let l = u.0 in omega (arith, l)) h.0)

  same_threads : (rs ss : List Record) → ((t : ℕ) → keep t rs ≡ keep t ss) → (first count : ℕ) → by_threads rs first count ≡ by_threads ss first count
  unfolding by_threads
  same_threads rs ss e first zero = refl
  same_threads rs ss e first (suc count) =
      ap (λ (k : List Record). flat_map f k ++ by_threads rs (suc first) count) (e first)
      ∙ ap (λ (k : List Abort). flat_map f (keep first ss) ++ k) (same_threads rs ss e (suc first) count)

ascends : (f : Record → List Abort) (rs : List Record) → IsNonDecreasingBy (λ (r : Record). r.thread) rs → Ascends f rs
ascends f [] h = tt
ascends f (r ∷ rs) h = (
  every (λ (z : Record). r.thread ≤ z.thread) rs
      (All-from_get_or (λ (z : Record). r.thread ≤ z.thread) rs r (λ i l. h 0 (suc i) r (omega arith) (omega (arith, l)))),
  ascends f rs (λ i j d a b. h (suc i) (suc j) d (omega (arith, a)) (omega (arith, b))),
)

-- a record of a thread
some_record : ℕ → Record
some_record t = record { thread = t; position = 0; replies = record { items = []; spare = 0 }; verdict = Wrote 0 }

tie_is : (t n : ℕ) → (not (is_lt (nat_cmp t n)) && not (is_lt (nat_cmp n t))) ≡ (n == t)
tie_is t n = grind (arith, nat_tests)

kept : (xs ys : List Record) → IsStableByKey (λ (r : Record). r.thread) nat_cmp xs ys → (t : ℕ) → keep t ys ≡ keep t xs
unfolding some_record
kept xs ys h t =
    sym (filter_agree (λ (r : Record). not (is_lt (nat_cmp t r.thread)) && not (is_lt (nat_cmp r.thread t))) (λ (r : Record). r.thread == t) (λ r. tie_is t r.thread) ys)
    ∙ h (some_record t)
    ∙ filter_agree (λ (r : Record). not (is_lt (nat_cmp t r.thread)) && not (is_lt (nat_cmp r.thread t))) (λ (r : Record). r.thread == t) (λ r. tie_is t r.thread) xs

module _ (ds : List Declaration) (homes : List (ℕ × ℕ)) (tickets : List ℕ) (all : List plainly.Record) (counts : (n : ℕ) → up_to n tickets ≡ writers_up_to n all) where
  aborts_same : (r : Record) (v : Verdict) → aborts_by ds homes tickets r v ≡ lines_of_abort ds homes all (r.thread, r.position) (map plain_reply r.replies.items) (verdict v)
  aborts_same r (Wrote t) = refl
  aborts_same r (Read a) = refl
  aborts_same r (Cancelled a) = refl
  aborts_same r (Locked a p) =
      ap (λ (n : ℕ). let x : Abort = record { place = (r.thread, r.position); seen = n; replies = map plain_reply r.replies.items; cause = aborts.Locked (part_named ds homes p) } in x ∷ []) (counts a)
  aborts_same r (Changed a p t) =
      ap (λ (n : ℕ). let x : Abort = record { place = (r.thread, r.position); seen = n; replies = map plain_reply r.replies.items; cause = aborts.Changed (part_named ds homes p) (up_to t tickets) } in x ∷ []) (counts a)
      ∙ ap (λ (n : ℕ). let x : Abort = record { place = (r.thread, r.position); seen = writers_up_to a all; replies = map plain_reply r.replies.items; cause = aborts.Changed (part_named ds homes p) n } in x ∷ []) (counts t)

  none_told : (r : Record) (v : Verdict) → is_abort (verdict v) ≡ false → lines_of_abort ds homes all (r.thread, r.position) (map plain_reply r.replies.items) (verdict v) ≡ []
  none_told r (Wrote t) h = refl
  none_told r (Read a) h = refl
  none_told r (Cancelled a) h = refl
  none_told r (Locked a p) h = absurd cc
  none_told r (Changed a p t) h = absurd cc

  thread_lines : (t : ℕ) (rs : List Record) → flat_map (aborts_at ds homes tickets) (keep t (filter was_aborted rs)) ≡ aborts_of_thread ds homes all t (map plain rs)
  thread_lines t [] = refl
  thread_lines t (r ∷ rs) = by (was_aborted r) refl (r.thread == t) refl (thread_lines t rs)
    where
      by : (a : Bool) → was_aborted r ≡ a → (b : Bool) → r.thread == t ≡ b
          → flat_map (aborts_at ds homes tickets) (keep t (filter was_aborted rs)) ≡ aborts_of_thread ds homes all t (map plain rs)
          → flat_map (aborts_at ds homes tickets) (keep t (cond a (r ∷ filter was_aborted rs) (filter was_aborted rs)))
          ≡ cond b (lines_of_abort ds homes all (r.thread, r.position) (map plain_reply r.replies.items) (verdict r.verdict) ++ aborts_of_thread ds homes all t (map plain rs)) (aborts_of_thread ds homes all t (map plain rs))
      by false is true here k = k ∙ ap (λ (l : List Abort). l ++ aborts_of_thread ds homes all t (map plain rs)) (sym (none_told r r.verdict is))
      by false is false here k = k
      by true is true here k =
          ap (λ (b : Bool). flat_map (aborts_at ds homes tickets) (cond b (r ∷ keep t (filter was_aborted rs)) (keep t (filter was_aborted rs)))) here
          ∙ ap (λ (l : List Abort). l ++ flat_map (aborts_at ds homes tickets) (keep t (filter was_aborted rs))) (aborts_same r r.verdict)
          ∙ ap (λ (l : List Abort). lines_of_abort ds homes all (r.thread, r.position) (map plain_reply r.replies.items) (verdict r.verdict) ++ l) k
      by true is false here k =
          ap (λ (b : Bool). flat_map (aborts_at ds homes tickets) (cond b (r ∷ keep t (filter was_aborted rs)) (keep t (filter was_aborted rs)))) here ∙ k

  all_lines : (rs : List Record) → map plain rs ≡ all → (first count : ℕ) → by_threads (aborts_at ds homes tickets) (filter was_aborted rs) first count ≡ aborts_from ds homes all first count
  unfolding by_threads
  all_lines rs e first zero = refl
  all_lines rs e first (suc count) =
      ap (λ (l : List Abort). l ++ by_threads (aborts_at ds homes tickets) (filter was_aborted rs) (suc first) count)
      (thread_lines first rs ∙ ap (aborts_of_thread ds homes all first) e)
      ∙ ap (λ (l : List Abort). aborts_of_thread ds homes all first all ++ l) (all_lines rs e (suc first) count)

  -- The lines of the aborted records, sorted by thread, are those of the definition.
  pub merged_aborts : (records sorted : List Record) (count : ℕ) → map plain records ≡ all → IsNonDecreasingBy (λ (r : Record). r.thread) sorted
      → IsStableByKey (λ (r : Record). r.thread) nat_cmp (filter was_aborted records) sorted → Every (λ (r : Record). r.thread < count) sorted
      → flat_map (aborts_at ds homes tickets) sorted ≡ aborts_from ds homes all 0 count
  merged_aborts records sorted count e rising stable low =
      in_threads (aborts_at ds homes tickets) sorted count (ascends (aborts_at ds homes tickets) sorted rising) low
      ∙ same_threads (aborts_at ds homes tickets) sorted (filter was_aborted records) (kept (filter was_aborted records) sorted stable) 0 count
      ∙ all_lines records e 0 count
