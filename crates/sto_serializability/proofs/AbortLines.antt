-- The abort lines of a journal: each is lawful, no transaction has too many, and they stand in their order.
use Rattle.std.specs.Prelude.{if◌then◌else◌, filter, ◌⊎◌, count_by}
use Rattle.std.specs.List.{All}
use Rattle.std.proofs.Common.{◌≡◌, ℕ, zero, suc, ◌+◌, ◌<◌, ◌≤◌, List, [], ◌∷◌, ◌++◌, length, refl, sym, ap, ◌∙◌, subst, arith, Some, Bool, true, false, cond, ◌==◌, ◌&&◌, inl, inr, eqb-true, eq-eqb, ne_eqb, length-append}
use Rattle.std.proofs.lemmas.Bool.{cases_lt, cases_eq}
use Rattle.std.proofs.lemmas.Bool.Decides.{nat_tests}
use Rattle.std.proofs.lemmas.List.Elements.{filter-append}
use Rattle.std.proofs.lemmas.List.Sums.{length-filter}
use Rattle.sto_model.specs.PlainReplies.{PlainReply}
use Rattle.sto_model.specs.Run.{Behaviour}
use Rattle.sto_model.specs.declared.shape.Shape.{Shape}
use Rattle.sto_lang.specs.Objects.{Declaration, shapes_of}
use Rattle.sto_lang.specs.Scripts.{Script, File}
use Rattle.sto_script.specs.Meaning.{meaning_of}
use Rattle.sto_type.specs.Meaning.{Meaning}
use Rattle.sto_core.specs.declared.view.View.{View}
use Rattle.sto_core.specs.History.{Contents, Validity, contents_as_of, writes, committed_updates}
use Rattle.sto_core.specs.Core.{Core}
use Rattle.sto_core.specs.Rule.{Past}
use Rattle.sto_report_spec.specs.Orders.{TransactionPlace, transaction_at}
use Rattle.sto_report_spec.specs.Aborts.{Abort}
use Rattle.sto_report_spec.specs.LawfulAborts.{IsLawfulAbort, known_at_end, MayPrecede, IsSorted, count_at, AreLawful}
use Rattle.sto_history.specs.Records.{Verdict, Wrote, Read, Cancelled, Locked, Changed, Record, is_abort, stands_at, known_after, IsSince, writers_up_to}
use Rattle.sto_serializability.specs.Finished.{IsRecord, AreFinished}
use Rattle.sto_history.specs.Counted.{Follows, InThreads, aborted_times}
use Rattle.sto_serializability.specs.Merged.{AreMerged, lines_of_abort, aborts_of_thread, aborts_from}
use Rattle.sto_serializability.specs.Meanings.{updating_by, IsTypeOf, IsUsable}
use Rattle.sto_history.proofs.Counts.{writers_rise}
use Rattle.sto_serializability.proofs.Chains.{Every, every}
use Rattle.sto_history.proofs.Histories.{StandsAt}
use Rattle.sto_serializability.proofs.Stands.{Stands}
use Rattle.sto_serializability.proofs.Pairs.{all_of, every_weaker, every_both, every_append, Later, later_append}
use Rattle.sto_serializability.proofs.Replaying.{places_of}
use Rattle.sto_serializability.proofs.Journal as journal
use Rattle.sto_serializability.proofs.Journal.{IsClosed}
use Rattle.sto_serializability.proofs.Aborting.{Beside, all_beside, since_lower, locked_lawful, changed_lawful}

module _ (ds : List Declaration) (homes : List (ℕ × ℕ)) (all : List Record) where
  abbrev lines : Record → List Abort
  lines r = lines_of_abort ds homes all r.place r.replies r.verdict

  -- what an abort line has of its record
  record IsLineOf (r : Record) (a : Abort) : Type 0 where
    placed : a.place ≡ r.place
    seen : a.seen ≡ writers_up_to (stands_at r.verdict) all
    known : known_at_end a ≡ writers_up_to (known_after r.verdict) all
    aborted : is_abort r.verdict ≡ true

  lines_are : (place : TransactionPlace) (replies : List PlainReply) (v : Verdict)
      → Every (IsLineOf (record { place = place; replies = replies; verdict = v })) (lines_of_abort ds homes all place replies v)
  lines_are place replies (Wrote t) = tt
  lines_are place replies (Read n) = tt
  lines_are place replies (Cancelled n) = tt
  lines_are place replies (Locked n p) = (record { placed = refl; seen = refl; known = refl; aborted = refl }, tt)
  lines_are place replies (Changed n p t) = (record { placed = refl; seen = refl; known = refl; aborted = refl }, tt)

  -- a fact of the lines of each record is one of the lines of a thread, and of all lines
  pub thread_every : (P : Abort → Type 0) (thread : ℕ) (rs : List Record) → Every (λ r. r.place.0 ≡ thread → Every P (lines r)) rs → Every P (aborts_of_thread ds homes all thread rs)
  thread_every P thread [] h = tt
  thread_every P thread (r ∷ rs) h = by (r.place.0 == thread) refl (thread_every P thread rs h.1)
    where
      by : (b : Bool) → r.place.0 == thread ≡ b → Every P (aborts_of_thread ds homes all thread rs)
          → Every P (cond b (lines r ++ aborts_of_thread ds homes all thread rs) (aborts_of_thread ds homes all thread rs))
      by true is k = every_append P (lines r) (aborts_of_thread ds homes all thread rs) (h.0 (eqb-true r.place.0 thread is)) k
      by false is k = k

  pub all_every : (P : Abort → Type 0) → Every (λ r. Every P (lines r)) all → (first count : ℕ) → Every P (aborts_from ds homes all first count)
  all_every P h first zero = tt
  all_every P h first (suc count) =
      every_append P (aborts_of_thread ds homes all first all) (aborts_from ds homes all (suc first) count)
      (thread_every P first all (every_weaker (λ r. Every P (lines r)) (λ r. r.place.0 ≡ first → Every P (lines r)) (λ r k e. k) all h))
      (all_every P h (suc first) count)

  -- the lines of a thread are of that thread
  of_thread : (thread : ℕ) (rs : List Record) → Every (λ a. a.place.0 ≡ thread) (aborts_of_thread ds homes all thread rs)
  of_thread thread rs = thread_every (λ a. a.place.0 ≡ thread) thread rs (each_of rs)
    where
      each_of : (xs : List Record) → Every (λ r. r.place.0 ≡ thread → Every (λ a. a.place.0 ≡ thread) (lines r)) xs
      each_of [] = tt
      each_of (r ∷ xs) = (
        λ e. every_weaker (IsLineOf r) (λ a. a.place.0 ≡ thread) (λ a l. ap (λ (x : TransactionPlace). x.0) l.placed ∙ e) (lines r) (lines_are r.place r.replies r.verdict),
        each_of xs,
      )

  from_thread : (first count : ℕ) → Every (λ a. first ≤ a.place.0) (aborts_from ds homes all first count)
  from_thread first zero = tt
  from_thread first (suc count) =
      every_append (λ a. first ≤ a.place.0) (aborts_of_thread ds homes all first all) (aborts_from ds homes all (suc first) count)
      (every_weaker (λ a. a.place.0 ≡ first) (λ a. first ≤ a.place.0) (λ a e. omega (arith, e)) (aborts_of_thread ds homes all first all) (of_thread first all))
      (every_weaker (λ a. suc first ≤ a.place.0) (λ a. first ≤ a.place.0) (λ a l. omega (arith, l)) (aborts_from ds homes all (suc first) count) (from_thread (suc first) count))

  -- their order

  since_stands : (n : ℕ) (v : Verdict) → is_abort v ≡ true → IsSince n v → n ≤ stands_at v
  since_stands n (Wrote t) h l = absurd cc
  since_stands n (Read i) h l = absurd cc
  since_stands n (Cancelled i) h l = absurd cc
  since_stands n (Locked i p) h l = l
  since_stands n (Changed i p t) h l = l

  precede : (r s : Record) → r.place.0 ≡ s.place.0 → Follows r s → (a b : Abort) → IsLineOf r a → IsLineOf s b → MayPrecede a b
  precede r s e f a b of_r of_s = elim (cases_lt r.place.1 s.place.1) [
    | inl l ↦ inr (inl (
      ap (λ (x : TransactionPlace). x.0) of_r.placed ∙ e ∙ ap (λ (x : TransactionPlace). x.0) (sym of_s.placed),
      (let x = ap (λ (y : TransactionPlace). y.1) of_r.placed in let y = ap (λ (z : TransactionPlace). z.1) of_s.placed in omega (arith, l, x, y)),
    ))
    | inr l ↦
        let same : r.place.1 ≡ s.place.1 = (let p = f.position in omega (arith, l, p)) in
        let place_same : r.place ≡ s.place = λ i. (e i, same i) in
        let up = since_stands (known_after r.verdict) s.verdict of_s.aborted f.since in
        inr (inr (
          of_r.placed ∙ place_same ∙ sym of_s.placed,
          (let w = writers_rise all (known_after r.verdict) (stands_at s.verdict) up in let x = of_r.known in let y = of_s.seen in omega (arith, w, x, y)),
        ))
  ]

  line_before : (r s : Record) → r.place.0 ≡ s.place.0 → Follows r s → Every (λ a. Every (MayPrecede a) (lines s)) (lines r)
  line_before r s e f =
      every_weaker (IsLineOf r) (λ a. Every (MayPrecede a) (lines s))
      (λ a of_r. every_weaker (IsLineOf s) (MayPrecede a) (λ b of_s. precede r s e f a b of_r of_s) (lines s) (lines_are s.place s.replies s.verdict))
      (lines r) (lines_are r.place r.replies r.verdict)

  one_line : (place : TransactionPlace) (replies : List PlainReply) (v : Verdict) → Later MayPrecede (lines_of_abort ds homes all place replies v)
  one_line place replies (Wrote t) = tt
  one_line place replies (Read n) = tt
  one_line place replies (Cancelled n) = tt
  one_line place replies (Locked n p) = (tt, tt)
  one_line place replies (Changed n p t) = (tt, tt)

  -- swapping the two sides of a list of facts
  turned : (xs : List Abort) (P : Abort → Abort → Type 0) (ys : List Abort) → Every (λ y. Every (λ x. P x y) xs) ys → Every (λ x. Every (P x) ys) xs
  turned [] P ys h = tt
  turned (x ∷ xs) P ys h = (
    every_weaker (λ y. Every (λ z. P z y) (x ∷ xs)) (P x) (λ y k. k.0) ys h,
    turned xs P ys (every_weaker (λ y. Every (λ z. P z y) (x ∷ xs)) (λ y. Every (λ z. P z y) xs) (λ y k. k.1) ys h),
  )

  thread_sorted : (thread : ℕ) (rs : List Record) → InThreads rs → Later MayPrecede (aborts_of_thread ds homes all thread rs)
  thread_sorted thread [] h = tt
  thread_sorted thread (r ∷ rs) h = by (r.place.0 == thread) refl (thread_sorted thread rs h.1)
    where
      by : (b : Bool) → r.place.0 == thread ≡ b → Later MayPrecede (aborts_of_thread ds homes all thread rs)
          → Later MayPrecede (cond b (lines r ++ aborts_of_thread ds homes all thread rs) (aborts_of_thread ds homes all thread rs))
      by true is rest =
          let here : r.place.0 ≡ thread = eqb-true r.place.0 thread is in
          later_append MayPrecede (lines r) (aborts_of_thread ds homes all thread rs) (one_line r.place r.replies r.verdict) rest
          (turned (lines r) MayPrecede (aborts_of_thread ds homes all thread rs)
          (thread_every (λ b. Every (λ a. MayPrecede a b) (lines r)) thread rs
          (every_weaker (λ (s : Record). r.place.0 ≡ s.place.0 → Follows r s) (λ s. s.place.0 ≡ thread → Every (λ b. Every (λ a. MayPrecede a b) (lines r)) (lines s))
          (λ s f e. turned (lines s) (λ b a. MayPrecede a b) (lines r) (line_before r s (here ∙ sym e) (f (here ∙ sym e)))) rs
          (every (λ (s : Record). r.place.0 ≡ s.place.0 → Follows r s) rs h.0))))
      by false is rest = rest

  pub all_sorted : InThreads all → (first count : ℕ) → Later MayPrecede (aborts_from ds homes all first count)
  all_sorted h first zero = tt
  all_sorted h first (suc count) =
      later_append MayPrecede (aborts_of_thread ds homes all first all) (aborts_from ds homes all (suc first) count) (thread_sorted first all h) (all_sorted h (suc first) count)
      (every_weaker (λ a. a.place.0 ≡ first) (λ a. Every (MayPrecede a) (aborts_from ds homes all (suc first) count))
      (λ a e. every_weaker (λ b. suc first ≤ b.place.0) (MayPrecede a) (λ b l. inl (omega (arith, e, l))) (aborts_from ds homes all (suc first) count) (from_thread (suc first) count))
      (aborts_of_thread ds homes all first all) (of_thread first all))

  pub sorted_of : (xs : List Abort) → Later MayPrecede xs → IsSorted xs
  sorted_of [] h = tt
  sorted_of (a ∷ []) h = tt
  sorted_of (a ∷ b ∷ xs) h = (h.0.0, sorted_of (b ∷ xs) h.1)

  -- how many there are of one transaction

  abbrev is_at : TransactionPlace → Abort → Bool
  is_at place a = (a.place.0 == place.0) && (a.place.1 == place.1)

  abbrev among : TransactionPlace → List Abort → ℕ
  among place xs = length (filter (is_at place) xs)

  among_append : (place : TransactionPlace) (xs ys : List Abort) → among place (xs ++ ys) ≡ among place xs + among place ys
  among_append place xs ys = ap length (filter-append (is_at place) xs ys) ∙ length-append (filter (is_at place) xs) (filter (is_at place) ys)

  abbrev one_abort : TransactionPlace → TransactionPlace → Verdict → ℕ
  one_abort place q v = if (q.0 == place.0) && ((q.1 == place.1) && is_abort v) then 1 else 0

  unit_list : (b : Bool) (a : Abort) → length (cond b (a ∷ []) []) ≡ (let n : ℕ = if b then 1 else 0 in n)
  unit_list true a = refl
  unit_list false a = refl

  and_more : (a b : Bool) → (let n : ℕ = if a && b then 1 else 0 in n) ≡ (if a && (b && true) then 1 else 0)
  and_more true true = refl
  and_more true false = refl
  and_more false b = refl

  and_none : (a b : Bool) → (let n : ℕ = if a && (b && false) then 1 else 0 in n) ≡ 0
  and_none true true = refl
  and_none true false = refl
  and_none false b = refl

  among_one : (place q : TransactionPlace) (replies : List PlainReply) (v : Verdict) → among place (lines_of_abort ds homes all q replies v) ≡ one_abort place q v
  among_one place q replies (Wrote t) = sym (and_none (q.0 == place.0) (q.1 == place.1))
  among_one place q replies (Read n) = sym (and_none (q.0 == place.0) (q.1 == place.1))
  among_one place q replies (Cancelled n) = sym (and_none (q.0 == place.0) (q.1 == place.1))
  among_one place q replies (Locked n p) = unit_list ((q.0 == place.0) && (q.1 == place.1)) _ ∙ and_more (q.0 == place.0) (q.1 == place.1)
  among_one place q replies (Changed n p t) = unit_list ((q.0 == place.0) && (q.1 == place.1)) _ ∙ and_more (q.0 == place.0) (q.1 == place.1)

  thread_count : (place : TransactionPlace) (thread : ℕ) (rs : List Record) → among place (aborts_of_thread ds homes all thread rs) ≤ aborted_times place rs
  thread_count place thread [] = omega arith
  thread_count place thread (r ∷ rs) = by (r.place.0 == thread) (thread_count place thread rs)
    where
      by : (b : Bool) → among place (aborts_of_thread ds homes all thread rs) ≤ aborted_times place rs
          → among place (cond b (lines r ++ aborts_of_thread ds homes all thread rs) (aborts_of_thread ds homes all thread rs)) ≤ aborted_times place (r ∷ rs)
      by true k =
          let e = among_append place (lines r) (aborts_of_thread ds homes all thread rs) in
          let one = among_one place r.place r.replies r.verdict in omega (arith, e, one, k)
      by false k = omega (arith, k)

  none_of : (place : TransactionPlace) (xs : List Abort) → Every (λ a. a.place.0 ≡ place.0 → ⊥) xs → among place xs ≡ 0
  none_of place [] h = refl
  none_of place (a ∷ xs) h =
      ap (λ (b : Bool). length (cond (b && (a.place.1 == place.1)) (a ∷ filter (is_at place) xs) (filter (is_at place) xs))) (ne_eqb a.place.0 place.0 h.0)
      ∙ none_of place xs h.1

  all_count : (place : TransactionPlace) (first count : ℕ) → among place (aborts_from ds homes all first count) ≤ aborted_times place all
  all_count place first zero = omega arith
  all_count place first (suc count) =
      let e = among_append place (aborts_of_thread ds homes all first all) (aborts_from ds homes all (suc first) count) in
      elim (cases_eq place.0 first) [
        | inl same ↦
            let here = thread_count place first all in
            let none = none_of place (aborts_from ds homes all (suc first) count)
            (every_weaker (λ a. suc first ≤ a.place.0) (λ a. a.place.0 ≡ place.0 → ⊥) (λ a l k. omega (arith, l, k, same)) (aborts_from ds homes all (suc first) count) (from_thread (suc first) count)) in
            omega (arith, e, here, none)
        | inr other ↦
            let rest = all_count place (suc first) count in
            let none = none_of place (aborts_of_thread ds homes all first all)
            (every_weaker (λ a. a.place.0 ≡ first) (λ a. a.place.0 ≡ place.0 → ⊥) (λ a l k. other (sym k ∙ l)) (aborts_of_thread ds homes all first all) (of_thread first all)) in
            omega (arith, e, rest, none)
      ]

  pub few_at : (place : TransactionPlace) (first count : ℕ) → count_at place (aborts_from ds homes all first count) ≤ aborted_times place all
  few_at place first count =
      let e = length-filter (is_at place) (aborts_from ds homes all first count) in
      let k = all_count place first count in omega (arith, e, k)

module _ {valid : Validity} {sizes : List ℕ} {opening : Contents} {past : Past} {core : Core} {v : View}
    (means : List Shape → Meaning) (file : File) (usable : IsUsable file) (type_of : IsTypeOf (shapes_of file.declarations) (means (shapes_of file.declarations)))
    (closed : IsClosed valid sizes opening past core v (means (shapes_of file.declarations)))
    (tries : ℕ) (rs ordered : List Record)
    (finished : AreFinished (means (shapes_of file.declarations)) file tries v rs) (merged : AreMerged rs ordered) where
  abbrev m : Meaning
  m = means (shapes_of file.declarations)

  lawful_by : (r : Record) (w : Verdict) → r.verdict ≡ w → Every (λ y. Beside r y × Beside y r) rs → (s : Script) → transaction_at file r.place ≡ Some s
      → StandsAt m core.clock (λ n. contents_as_of opening past.log n) (λ t p. writes (committed_updates (past.log t)) p) rs (meaning_of s) r.replies w
      → Every (IsLawfulAbort (updating_by means) file (places_of ordered)) (lines_of_abort file.declarations m.homes rs r.place r.replies w)
  lawful_by r (Wrote t) is b s at h = tt
  lawful_by r (Read n) is b s at h = tt
  lawful_by r (Cancelled n) is b s at h = tt
  lawful_by r (Locked n p) is b s at h = (locked_lawful means file usable type_of closed tries rs ordered finished merged r b s at n p is h, tt)
  lawful_by r (Changed n p t) is b s at h = (changed_lawful means file usable type_of closed tries rs ordered finished merged r b s at n p t is h, tt)

  record_lawful : (r : Record) → Every (λ y. Beside r y × Beside y r) rs → IsRecord m file v r
      → Every (IsLawfulAbort (updating_by means) file (places_of ordered)) (lines_of_abort file.declarations m.homes rs r.place r.replies r.verdict)
  record_lawful r b h =
      let there = journal.stands means file usable type_of closed tries rs ordered finished merged r h in
      lawful_by r r.verdict refl b there.script there.transaction there.at

  -- The aborted attempts are lawful.
  pub aborts_lawful : AreLawful (updating_by means) file tries (places_of ordered) (aborts_from file.declarations m.homes rs 0 (length file.threads))
  aborts_lawful = record {
    each = all_of (IsLawfulAbort (updating_by means) file (places_of ordered)) (aborts_from file.declarations m.homes rs 0 (length file.threads))
        (all_every file.declarations m.homes rs (IsLawfulAbort (updating_by means) file (places_of ordered))
        (every_both (λ r. Every (λ y. Beside r y × Beside y r) rs) (IsRecord m file v) (λ r. Every (IsLawfulAbort (updating_by means) file (places_of ordered)) (lines_of_abort file.declarations m.homes rs r.place r.replies r.verdict))
        record_lawful rs (all_beside rs finished.threads) (every (IsRecord m file v) rs finished.each))
        0 (length file.threads));
    few = λ place. (let k = few_at file.declarations m.homes rs place 0 (length file.threads) in let f = finished.few place in omega (arith, k, f));
    handed = λ p q own low used.
        (let k = few_at file.declarations m.homes rs p 0 (length file.threads) in let f = finished.few p in
        let all = finished.handed p q own low (omega (arith, k, f, used)) in
        let l = few_at file.declarations m.homes rs q 0 (length file.threads) in omega (arith, all, l));
    sorted = sorted_of file.declarations m.homes rs (aborts_from file.declarations m.homes rs 0 (length file.threads))
        (all_sorted file.declarations m.homes rs finished.threads 0 (length file.threads));
  }
