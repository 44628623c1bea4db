-- One more transaction of a thread was run.
use Rattle.std.specs.Prelude.{if◌then◌else◌, Some}
use Rattle.std.specs.List.{All}
use Rattle.std.proofs.Common.{◌≡◌, ℕ, suc, ◌+◌, ◌<◌, ◌≤◌, List, [], ◌∷◌, ◌++◌, length, refl, sym, ap, ap₂, ◌∙◌, subst, arith, Bool, true, false, append-nil, inl, inr, true≢false}
use Rattle.std.proofs.lemmas.Bool.{cases_eq}
use Rattle.std.proofs.lemmas.List.Elements.{All-append, All-weaker}
use Rattle.sto_lang.specs.Scripts.{Script, File}
use Rattle.sto_script.specs.Meaning.{meaning_of}
use Rattle.sto_type.specs.Meaning.{Meaning}
use Rattle.sto_core.specs.declared.view.View.{View}
use Rattle.sto_report_spec.specs.Orders.{TransactionPlace, transaction_at, positions_of, numbers_from, count_in}
use Rattle.sto_history.specs.Records.{Record, is_abort}
use Rattle.sto_history.specs.Counted.{finished_places, aborted_times}
use Rattle.sto_history.specs.Added.{IsAdded, HasAdded}
use Rattle.sto_history.specs.Trying.{AreFound}
use Rattle.sto_serializability.specs.Working.{AreSoFar}
use Rattle.sto_serializability.proofs.Chains.{Every, every}
use Rattle.sto_serializability.proofs.Pairs.{all_of, every_weaker, every_append}
use Rattle.sto_serializability.proofs.Working.{more_so_far, ended_more, none_aborted, aborted_append}
use Rattle.sto_run_threads.specs.Running.{ended_of, IsUpTo, IsUnderWay, AreUnderWay}
use Rattle.sto_transaction.specs.Pace.{KeepsPace}
use Rattle.sto_run_threads.specs.Ran.{HasRunAt}
use Rattle.sto_run_threads.specs.Worked.{HasWorked, WasFound, HasSpared, IsFresh, AddsTo, AbortsNone, IsNext, IsOneMore}
use Rattle.sto_run_threads.proofs.Found.{found_more}
use Rattle.sto_run_threads.proofs.Threads.{length_numbers, positions_in, none_ended, all_aborted}
use Rattle.sto_run_threads.specs.Plans.{Plan, pace_of, IsPaced}

-- the new records are of the thread, and of the position after those that ended
placed_up : (thread ended : ℕ) (r : Record) → r.place ≡ (thread, suc ended) → IsUpTo thread (suc ended) r
placed_up thread ended r is own = let p = ap (λ (x : TransactionPlace). x.1) is in (omega (arith, p), λ e. absurd (omega (arith, p, e)))

up_more : (thread ended : ℕ) (r : Record) → IsUpTo thread ended r → IsUpTo thread (suc ended) r
up_more thread ended r up own = let p = (up own).0 in (omega (arith, p), λ e. absurd (omega (arith, p, e)))

-- the place of the records that are added
pub placed_all : (m : Meaning) (v w : View) (s : Script) (place : TransactionPlace) (new : List Record)
    → All (IsAdded m v w (meaning_of s) place) new → Every (λ (r : Record). r.place ≡ place) new
placed_all m v w s place new h = every_weaker (IsAdded m v w (meaning_of s) place) (λ (r : Record). r.place ≡ place) (λ r a. a.placed) new (every (IsAdded m v w (meaning_of s) place) new h)

-- the thread itself, where the transaction has ended
pub own_ended : (file : File) (rs new : List Record) (thread : ℕ) → IsUnderWay file rs thread → suc (ended_of thread rs) ≤ count_in file.threads thread
    → Every (λ (r : Record). r.place ≡ (thread, suc (ended_of thread rs))) new → finished_places new ≡ (thread, suc (ended_of thread rs)) ∷ []
    → (ended_of thread (rs ++ new) ≡ suc (ended_of thread rs)) × IsUnderWay file (rs ++ new) thread
own_ended file rs new thread h there placed ends = (
  count,
  record {
    order = order ∙ ap (numbers_from 1) (sym count);
    comes = subst (λ (n : ℕ). All (IsUpTo thread n) (rs ++ new)) (sym count)
        (All-append (IsUpTo thread (suc (ended_of thread rs))) rs new
        (All-weaker (IsUpTo thread (ended_of thread rs)) (IsUpTo thread (suc (ended_of thread rs))) (λ r up. up_more thread (ended_of thread rs) r up) rs h.comes)
        (all_of (IsUpTo thread (suc (ended_of thread rs))) new
        (every_weaker (λ (r : Record). r.place ≡ (thread, suc (ended_of thread rs))) (IsUpTo thread (suc (ended_of thread rs))) (λ r is. placed_up thread (ended_of thread rs) r is) new placed)));
    within = (let c = count in omega (arith, c, there));
  },
)
  where
    order : positions_of thread (finished_places (rs ++ new)) ≡ numbers_from 1 (suc (ended_of thread rs))
    order = ended_more rs new (thread, suc (ended_of thread rs)) thread (ended_of thread rs) ends refl refl h.order

    count : ended_of thread (rs ++ new) ≡ suc (ended_of thread rs)
    count = ap length order ∙ length_numbers 1 (suc (ended_of thread rs))

-- the same where it is handed back
pub own_left : (file : File) (rs new : List Record) (thread : ℕ) → IsUnderWay file rs thread
    → Every (λ (r : Record). r.place ≡ (thread, suc (ended_of thread rs))) new → finished_places new ≡ []
    → (ended_of thread (rs ++ new) ≡ ended_of thread rs) × IsUnderWay file (rs ++ new) thread
own_left file rs new thread h placed ends = (
  count,
  record {
    order = same ∙ h.order ∙ ap (numbers_from 1) (sym count);
    comes = subst (λ (n : ℕ). All (IsUpTo thread n) (rs ++ new)) (sym count)
        (All-append (IsUpTo thread (ended_of thread rs)) rs new h.comes
        (all_of (IsUpTo thread (ended_of thread rs)) new (aborts new placed (all_aborted new ends))));
    within = (let c = count in let k = h.within in omega (arith, c, k));
  },
)
  where
    same : positions_of thread (finished_places (rs ++ new)) ≡ positions_of thread (finished_places rs)
    same = positions_in thread rs new ∙ ap (λ (l : List TransactionPlace). positions_of thread (finished_places rs) ++ positions_of thread l) ends ∙ append-nil (positions_of thread (finished_places rs))

    count : ended_of thread (rs ++ new) ≡ ended_of thread rs
    count = ap length same

    aborts : (xs : List Record) → Every (λ (r : Record). r.place ≡ (thread, suc (ended_of thread rs))) xs → Every (λ (r : Record). is_abort r.verdict ≡ true) xs → Every (IsUpTo thread (ended_of thread rs)) xs
    aborts [] a b = tt
    aborts (x ∷ xs) a b = ((λ own. (let p = ap (λ (y : TransactionPlace). y.1) a.0 in omega (arith, p), λ e. b.0)), aborts xs a.1 b.1)

-- another thread
pub other_same : (file : File) (rs new : List Record) (place : TransactionPlace) (thread : ℕ) → (place.0 ≡ thread → ⊥) → IsUnderWay file rs thread
    → Every (λ (r : Record). r.place ≡ place) new → (ended_of thread (rs ++ new) ≡ ended_of thread rs) × IsUnderWay file (rs ++ new) thread
other_same file rs new place thread other h placed = (
  count,
  record {
    order = same ∙ h.order ∙ ap (numbers_from 1) (sym count);
    comes = subst (λ (n : ℕ). All (IsUpTo thread n) (rs ++ new)) (sym count)
        (All-append (IsUpTo thread (ended_of thread rs)) rs new h.comes
        (all_of (IsUpTo thread (ended_of thread rs)) new
        (every_weaker (λ (r : Record). r.place.0 ≡ thread → ⊥) (IsUpTo thread (ended_of thread rs)) (λ r no own. absurd (no own)) new none)));
    within = (let c = count in let k = h.within in omega (arith, c, k));
  },
)
  where
    none : Every (λ (r : Record). r.place.0 ≡ thread → ⊥) new
    none = every_weaker (λ (r : Record). r.place ≡ place) (λ (r : Record). r.place.0 ≡ thread → ⊥) (λ r is own. other (sym (ap (λ (x : TransactionPlace). x.0) is) ∙ own)) new placed

    same : positions_of thread (finished_places (rs ++ new)) ≡ positions_of thread (finished_places rs)
    same = positions_in thread rs new ∙ ap (λ (l : List ℕ). positions_of thread (finished_places rs) ++ l) (none_ended thread new none) ∙ append-nil (positions_of thread (finished_places rs))

    count : ended_of thread (rs ++ new) ≡ ended_of thread rs
    count = ap length same

-- Records of the next transaction leave a try to those before it, and to it where it has ended with one left.
pub spared_more : (tries thread : ℕ) (rs new : List Record) → Every (λ (r : Record). r.place ≡ (thread, suc (ended_of thread rs))) new
    → ended_of thread (rs ++ new) ≤ suc (ended_of thread rs)
    → (ended_of thread (rs ++ new) ≡ suc (ended_of thread rs) → aborted_times (thread, suc (ended_of thread rs)) (rs ++ new) < tries)
    → HasSpared tries thread rs → HasSpared tries thread (rs ++ new)
spared_more tries thread rs new placed few last h position low high = elim (cases_eq position (suc (ended_of thread rs))) [
  | inl same ↦ subst (λ (n : ℕ). aborted_times (thread, n) (rs ++ new) < tries) (sym same) (last (omega (arith, same, high, few)))
  | inr other ↦
      let old = h position low (omega (arith, other, high, few)) in
      let both = aborted_append (thread, position) rs new in
      let none = none_aborted (thread, position) new (every_weaker (λ (r : Record). r.place ≡ (thread, suc (ended_of thread rs))) (λ (r : Record). r.place.0 ≡ thread → r.place.1 ≡ position → ⊥)
      (λ r is e g. other (sym g ∙ ap (λ (x : TransactionPlace). x.1) is)) new placed) in omega (arith, old, both, none)
]

-- Attempts of the next transaction of a thread add their records.
pub next_more : (plan : Plan) (v w : View) (thread : ℕ) (rs new : List Record) (script : Script) (ended : Bool)
    → HasWorked plan v rs → suc (ended_of thread rs) ≤ count_in plan.file.threads thread → transaction_at plan.file (thread, suc (ended_of thread rs)) ≡ Some script
    → HasAdded plan.meaning plan.tries v w (meaning_of script) (thread, suc (ended_of thread rs)) new → AreFound w (v.starts + 1) new
    → aborted_times (thread, suc (ended_of thread rs)) rs + aborted_times (thread, suc (ended_of thread rs)) new ≤ plan.tries
    → ((position : ℕ) → 1 ≤ position → position < suc (ended_of thread rs) → aborted_times (thread, position) rs ≡ plan.tries → aborted_times (thread, suc (ended_of thread rs)) new ≡ 0)
    → finished_places new ≡ (if ended then (thread, suc (ended_of thread rs)) ∷ [] else []) → KeepsPace (pace_of plan) v w → IsNext plan w thread rs (rs ++ new) ended
next_more plan v w thread rs new script ended h there at added finding few spare ends pace = by ended ends
  where
    placed : Every (λ (r : Record). r.place ≡ (thread, suc (ended_of thread rs))) new
    placed = placed_all plan.meaning v w script (thread, suc (ended_of thread rs)) new added.each

    so_far : AreSoFar plan.meaning plan.file plan.tries w (rs ++ new)
    so_far = more_so_far plan.meaning plan.file plan.tries v w rs new (thread, suc (ended_of thread rs)) script at
        (every (IsUpTo thread (ended_of thread rs)) rs (h.under_way thread).comes) h.so_far added few spare

    paced : IsPaced plan w
    paced = omega (arith, h.paced, pace)

    found : All (WasFound w) (rs ++ new)
    found = found_more v w rs new (v.starts + 1) added.grows h.found finding

    all : IsUnderWay plan.file (rs ++ new) thread → AreUnderWay plan.file (rs ++ new)
    all here u = elim (cases_eq thread u) [
      | inl same ↦ subst (IsUnderWay plan.file (rs ++ new)) same here
      | inr other ↦ (other_same plan.file rs new (thread, suc (ended_of thread rs)) u other (h.under_way u) placed).1
    ]

    adds : AddsTo thread rs (rs ++ new)
    adds = record {
      apart = λ u other none. All-append (λ (r : Record). r.place.0 ≡ u → ⊥) rs new none
          (all_of (λ (r : Record). r.place.0 ≡ u → ⊥) new
          (every_weaker (λ (r : Record). r.place ≡ (thread, suc (ended_of thread rs))) (λ (r : Record). r.place.0 ≡ u → ⊥)
          (λ r is e. other (sym (ap (λ (x : TransactionPlace). x.0) is) ∙ e)) new placed));
      others = λ u other. (other_same plan.file rs new (thread, suc (ended_of thread rs)) u other (h.under_way u) placed).0;
      aborts = λ place other.
          (let a = aborted_append place rs new in
          let n = none_aborted place new (every_weaker (λ (r : Record). r.place ≡ (thread, suc (ended_of thread rs))) (λ (r : Record). r.place.0 ≡ place.0 → r.place.1 ≡ place.1 → ⊥)
          (λ r is e g. other (sym (ap (λ (x : TransactionPlace). x.0) is) ∙ e)) new placed) in omega (arith, a, n));
    }

    untried : aborted_times (thread, suc (suc (ended_of thread rs))) (rs ++ new) ≡ 0
    untried = none_aborted (thread, suc (suc (ended_of thread rs))) (rs ++ new)
        (every_append (λ (r : Record). r.place.0 ≡ thread → r.place.1 ≡ suc (suc (ended_of thread rs)) → ⊥) rs new
        (every_weaker (IsUpTo thread (ended_of thread rs)) (λ (r : Record). r.place.0 ≡ thread → r.place.1 ≡ suc (suc (ended_of thread rs)) → ⊥)
        (λ r up e g. (let p = (up e).0 in omega (arith, p, g))) rs (every (IsUpTo thread (ended_of thread rs)) rs (h.under_way thread).comes))
        (every_weaker (λ (r : Record). r.place ≡ (thread, suc (ended_of thread rs))) (λ (r : Record). r.place.0 ≡ thread → r.place.1 ≡ suc (suc (ended_of thread rs)) → ⊥)
        (λ r is e g. (let p = ap (λ (x : TransactionPlace). x.1) is in omega (arith, p, g))) new placed))

    by : (b : Bool) → finished_places new ≡ (if b then (thread, suc (ended_of thread rs)) ∷ [] else []) → IsNext plan w thread rs (rs ++ new) b
    by true last =
        let k = own_ended plan.file rs new thread (h.under_way thread) there placed last in record {
          worked = record { so_far = so_far; found = found; under_way = all k.1; paced = paced };
          adds = adds;
          more = λ e. (k.0, subst (λ (n : ℕ). aborted_times (thread, suc n) (rs ++ new) ≡ 0) (sym k.0) untried);
          left = λ e. absurd (true≢false e);
        }
    by false last =
        let k = own_left plan.file rs new thread (h.under_way thread) placed last in record {
          worked = record { so_far = so_far; found = found; under_way = all k.1; paced = paced };
          adds = adds;
          more = λ e. absurd (true≢false (sym e));
          left = λ e. k.0;
        }

-- where none of the place was aborted, and all are of the place, none was
none_else : (thread position : ℕ) (rs new : List Record) → AddsTo thread rs (rs ++ new) → Every (λ (r : Record). r.place ≡ (thread, position)) new
    → aborted_times (thread, position) new ≡ 0 → AbortsNone rs (rs ++ new)
none_else thread position rs new adds placed none place = elim (cases_eq thread place.0) [
  | inl same ↦ elim (cases_eq position place.1) [
    | inl too ↦
        let all = aborted_append place rs new in
        let here = ap₂ (λ (x y : ℕ). aborted_times (x, y) new) same too in omega (arith, all, here, none)
    | inr other ↦
        let all = aborted_append place rs new in
        let here = none_aborted place new (every_weaker (λ (r : Record). r.place ≡ (thread, position)) (λ (r : Record). r.place.0 ≡ place.0 → r.place.1 ≡ place.1 → ⊥)
        (λ r is e g. other (sym (ap (λ (x : TransactionPlace). x.1) is) ∙ g)) new placed) in omega (arith, all, here)
  ]
  | inr other ↦ adds.aborts place other
]

-- A run of the next transaction adds its records.
pub one_more : (plan : Plan) (passes : ℕ) (v w : View) (thread : ℕ) (rs later : List Record) (ended : Bool)
    → HasWorked plan v rs → suc (ended_of thread rs) ≤ count_in plan.file.threads thread → IsFresh plan.tries passes thread rs
    → HasRunAt plan passes v w (thread, suc (ended_of thread rs)) rs later ended → IsOneMore plan passes w thread rs later ended
one_more plan passes v w thread rs later ended h there fresh run =
    subst (λ (l : List Record). IsOneMore plan passes w thread rs l ended) (sym run.ran.whole) (record {
      next = next;
      fresh = λ on. still_fresh on fresh;
      used = λ off. subst (λ (n : ℕ). aborted_times (thread, suc n) (rs ++ run.ran.new) ≡ plan.tries) (sym (next.left off))
          (let a = aborted_append (thread, suc (ended_of thread rs)) rs run.ran.new in let u = run.ran.used off in
          let f = next.worked.so_far.few (thread, suc (ended_of thread rs)) in omega (arith, a, u, f));
      alone = λ one. (
        (run.ran.alone one).0,
        none_else thread (suc (ended_of thread rs)) rs run.ran.new next.adds
            (placed_all plan.meaning v w run.script (thread, suc (ended_of thread rs)) run.ran.new run.ran.added.each) (run.ran.alone one).1,
      );
    })
  where
    few : aborted_times (thread, suc (ended_of thread rs)) rs + aborted_times (thread, suc (ended_of thread rs)) run.ran.new ≤ plan.tries
    few = elim fresh [
      | inl one ↦ (let a = (run.ran.alone one).1 in let b = h.so_far.few (thread, suc (ended_of thread rs)) in omega (arith, a, b))
      | inr none ↦ (let b = run.ran.added.few in let z = none.0 in omega (arith, z, b))
    ]

    place : TransactionPlace
    place = (thread, suc (ended_of thread rs))

    spare : IsFresh plan.tries passes thread rs → (position : ℕ) → 1 ≤ position → position < suc (ended_of thread rs) → aborted_times (thread, position) rs ≡ plan.tries
        → aborted_times place run.ran.new ≡ 0
    spare (inl one) position low high all = (run.ran.alone one).1
    spare (inr none) position low high all = absurd (let s = none.1 position low (omega (arith, high)) in omega (arith, s, all))

    next : IsNext plan w thread rs (rs ++ run.ran.new) ended
    next = next_more plan v w thread rs run.ran.new run.script ended h there run.there run.ran.added run.ran.found few (spare fresh) run.ran.ends run.pace

    still_fresh : ended ≡ true → IsFresh plan.tries passes thread rs → IsFresh plan.tries passes thread (rs ++ run.ran.new)
    still_fresh on (inl one) = inl one
    still_fresh on (inr none) =
        let count = (next.more on).0 in inr (
          (next.more on).1,
          spared_more plan.tries thread rs run.ran.new (placed_all plan.meaning v w run.script place run.ran.new run.ran.added.each) (omega (arith, count))
              (λ e. (let a = aborted_append place rs run.ran.new in let b = run.ran.spare on in let z = none.0 in omega (arith, a, b, z))) none.1,
        )
