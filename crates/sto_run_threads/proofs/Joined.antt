-- A thread is claimed, and two passes are gathered.
use Rattle.std.specs.Prelude.{◌⊎◌, nat_eq}
use Rattle.std.specs.List.{All}
use Rattle.std.proofs.Common.{◌≡◌, ℕ, suc, ◌+◌, ◌<◌, ◌≤◌, List, [], ◌∷◌, ◌++◌, length, refl, sym, ap, ◌∙◌, subst, arith, append-nil, inl, inr, eq-eqb, ne_eqb}
use Rattle.std.proofs.lemmas.Bool.{cases_eq}
use Rattle.std.proofs.lemmas.List.Elements.{All-append, All-weaker}
use Rattle.sto_lang.specs.Scripts.{File}
use Rattle.sto_core.specs.declared.view.View.{View}
use Rattle.sto_core.specs.Lists.{Each, weight}
use Rattle.sto_core.specs.Gathered.{gathered_into}
use Rattle.sto_table.specs.Taken.{times}
use Rattle.sto_report_spec.specs.Orders.{TransactionPlace, positions_of, numbers_from, count_in, IsOrder}
use Rattle.sto_history.specs.Records.{Record}
use Rattle.sto_history.specs.Counted.{finished_places, aborted_times}
use Rattle.sto_serializability.proofs.Chains.{Every, every}
use Rattle.sto_serializability.proofs.Pairs.{every_weaker}
use Rattle.sto_serializability.proofs.Working.{none_aborted, aborted_append}
use Rattle.sto_history.proofs.Growing.{first_grows, second_grows}
use Rattle.sto_serializability.proofs.Gathering.{gathered_so_far, none_so_far}
use Rattle.sto_run_threads.specs.Running.{ended_of, IsUpTo, IsUnderWay, AreUnderWay, HasNone}
use Rattle.sto_run_threads.specs.Worked.{HasWorked, AreOf, IsFresh, AddsTo, AbortsNone}
use Rattle.sto_run_threads.proofs.Found.{found_both}
use Rattle.sto_run_threads.proofs.Threads.{positions_in, none_ended}
use Rattle.sto_run_threads.specs.Plans.{Plan, pace_of, IsPaced}
use Rattle.std.proofs.Math.Nat.{add-mul}

pub times_append : (x : ℕ) (xs ys : List ℕ) → times x (xs ++ ys) ≡ times x xs + times x ys
times_append x [] ys = omega arith
times_append x (y ∷ xs) ys = let k = times_append x xs ys in omega (arith, k)

pub once_self : (x : ℕ) → times x (x ∷ []) ≡ 1
once_self x = let e : weight (nat_eq x x) ≡ 1 = ap weight (eq-eqb x x refl) in omega (arith, e)

-- a number above all others is none of them
pub above_all : (n : ℕ) (xs : List ℕ) → Each (λ (x : ℕ). x < n) xs → times n xs ≡ 0
above_all n [] h = refl
above_all n (x ∷ xs) h =
    let l : x < n = h 0 x refl in
    let e : weight (nat_eq n x) ≡ 0 = ap weight (ne_eqb n x (λ is. absurd (omega (arith, is, l)))) in
    let k = above_all n xs (λ j y at. h (suc j) y at) in omega (arith, e, k)

-- a thread that was not claimed has no records
none_of : (thread : ℕ) (rs : List Record) → HasNone thread rs → Every (λ (r : Record). r.place.0 ≡ thread → ⊥) rs
none_of thread rs h = every (λ (r : Record). r.place.0 ≡ thread → ⊥) rs h

pub none_has_ended : (thread : ℕ) (rs : List Record) → HasNone thread rs → ended_of thread rs ≡ 0
none_has_ended thread rs h = ap length (none_ended thread rs (none_of thread rs h))

pub none_was_aborted : (place : TransactionPlace) (rs : List Record) → HasNone place.0 rs → aborted_times place rs ≡ 0
none_was_aborted place rs h =
    none_aborted place rs (every_weaker (λ (r : Record). r.place.0 ≡ place.0 → ⊥) (λ (r : Record). r.place.0 ≡ place.0 → r.place.1 ≡ place.1 → ⊥) (λ r no e g. no e) rs (none_of place.0 rs h))

pub none_is_fresh : (tries passes thread : ℕ) (rs : List Record) → HasNone thread rs → IsFresh tries passes thread rs
none_is_fresh tries passes thread rs h = inr (
  none_was_aborted (thread, suc (ended_of thread rs)) rs h,
  λ position low high. absurd (let e = none_has_ended thread rs h in omega (arith, e, low, high)),
)

-- a claimed thread was run
pub claimed_more : (threads : List ℕ) (n : ℕ) (rs later : List Record) → AreOf threads rs → AddsTo n rs later → AreOf (threads ++ n ∷ []) later
claimed_more threads n rs later h adds u none =
    let both = times_append u threads (n ∷ []) in
    adds.apart u (λ same. absurd (let e = ap (λ (x : ℕ). times u (x ∷ [])) same in let o = once_self u in omega (arith, both, none, e, o))) (h u (omega (arith, both, none)))

-- nothing was claimed
pub nothing_of : (rs : List Record) → rs ≡ [] → AreOf [] rs
nothing_of rs is thread none = subst (HasNone thread) (sym is) (λ k d l. absurd (omega (arith, l)))

-- nothing was run
pub none_worked : (plan : Plan) (v : View) (rs : List Record) → rs ≡ [] → IsPaced plan v → HasWorked plan v rs
none_worked plan v rs is paced = subst (HasWorked plan v) (sym is) (record {
  so_far = none_so_far plan.meaning plan.file plan.tries v;
  found = λ k d l. absurd (omega (arith, l));
  under_way = λ thread. record { order = refl; comes = λ k d l. absurd (omega (arith, l)); within = omega arith };
  paced = paced;
})

-- threads of the first records alone, and of the second
pub in_first : (file : File) (rs ss : List Record) (thread : ℕ) → HasNone thread ss → IsUnderWay file rs thread → IsUnderWay file (rs ++ ss) thread
in_first file rs ss thread none h = record {
  order = same ∙ h.order ∙ ap (numbers_from 1) (sym count);
  comes = subst (λ (n : ℕ). All (IsUpTo thread n) (rs ++ ss)) (sym count)
      (All-append (IsUpTo thread (ended_of thread rs)) rs ss h.comes
      (All-weaker (λ (r : Record). r.place.0 ≡ thread → ⊥) (IsUpTo thread (ended_of thread rs)) (λ r no own. absurd (no own)) ss none));
  within = (let c = count in let k = h.within in omega (arith, c, k));
}
  where
    same : positions_of thread (finished_places (rs ++ ss)) ≡ positions_of thread (finished_places rs)
    same = positions_in thread rs ss ∙ ap (λ (l : List ℕ). positions_of thread (finished_places rs) ++ l) (none_ended thread ss (none_of thread ss none)) ∙ append-nil (positions_of thread (finished_places rs))

    count : ended_of thread (rs ++ ss) ≡ ended_of thread rs
    count = ap length same

pub in_second : (file : File) (rs ss : List Record) (thread : ℕ) → HasNone thread rs → IsUnderWay file ss thread → IsUnderWay file (rs ++ ss) thread
in_second file rs ss thread none h = record {
  order = same ∙ h.order ∙ ap (numbers_from 1) (sym count);
  comes = subst (λ (n : ℕ). All (IsUpTo thread n) (rs ++ ss)) (sym count)
      (All-append (IsUpTo thread (ended_of thread ss)) rs ss
      (All-weaker (λ (r : Record). r.place.0 ≡ thread → ⊥) (IsUpTo thread (ended_of thread ss)) (λ r no own. absurd (no own)) rs none) h.comes);
  within = (let c = count in let k = h.within in omega (arith, c, k));
}
  where
    same : positions_of thread (finished_places (rs ++ ss)) ≡ positions_of thread (finished_places ss)
    same = positions_in thread rs ss ∙ ap (λ (l : List ℕ). l ++ positions_of thread (finished_places ss)) (none_ended thread rs (none_of thread rs none))

    count : ended_of thread (rs ++ ss) ≡ ended_of thread ss
    count = ap length same

-- of two lists of threads that have none in common, a thread is in at most one
pub either_list : (xs ys : List ℕ) → ((x : ℕ) → times x xs + times x ys ≤ 1) → (x : ℕ) → (times x xs ≡ 0) ⊎ (times x ys ≡ 0)
either_list xs ys apart x = elim (cases_eq (times x xs) 0) [
  | inl none ↦ inl none
  | inr some' ↦ inr (let a = apart x in omega (arith, a, some'))
]

-- a pass that gathers two
both_paced : (plan : Plan) (v u : View) → IsPaced plan v → IsPaced plan u → IsPaced plan (gathered_into v u)
both_paced plan v u h k = let both = add-mul v.starts u.starts (pace_of plan) in omega (arith, h, k, both)

-- The records of two passes, of which each thread has none in one, are those of the pass that gathers both.
pub gathered_apart : (plan : Plan) (v u : View) (rs ss : List Record) → ((thread : ℕ) → HasNone thread rs ⊎ HasNone thread ss)
    → HasWorked plan v rs → HasWorked plan u ss → HasWorked plan (gathered_into v u) (rs ++ ss)
gathered_apart plan v u rs ss apart h k = record {
  so_far = gathered_so_far plan.meaning plan.file plan.tries v u rs ss pairs each h.so_far k.so_far;
  found = found_both v u (gathered_into v u) rs ss (first_grows v u) (second_grows v u) h.found k.found;
  under_way = λ thread. elim (apart thread) [
    | inl none ↦ in_second plan.file rs ss thread none (k.under_way thread)
    | inr none ↦ in_first plan.file rs ss thread none (h.under_way thread)
  ];
  paced = both_paced plan v u h.paced k.paced;
}
  where
    each : (thread : ℕ) → ((position : ℕ) → aborted_times (thread, position) rs ≡ 0) ⊎ ((position : ℕ) → aborted_times (thread, position) ss ≡ 0)
    each thread = elim (apart thread) [
      | inl none ↦ inl (λ position. none_was_aborted (thread, position) rs none)
      | inr none ↦ inr (λ position. none_was_aborted (thread, position) ss none)
    ]

    -- a record of the first beside all of the second
    beside : (r : Record) → ((r.place.0 ≡ r.place.0 → ⊥) ⊎ HasNone r.place.0 ss) → Every (λ (s : Record). r.place.0 ≡ s.place.0 → ⊥) ss
    beside r (inl none) = absurd (none refl)
    beside r (inr none) = every_weaker (λ (s : Record). s.place.0 ≡ r.place.0 → ⊥) (λ (s : Record). r.place.0 ≡ s.place.0 → ⊥) (λ s no e. no (sym e)) ss (none_of r.place.0 ss none)

    owned : (qs : List Record) → ((thread : ℕ) → Every (λ (r : Record). r.place.0 ≡ thread → ⊥) qs ⊎ HasNone thread ss)
        → Every (λ (r : Record). Every (λ (s : Record). r.place.0 ≡ s.place.0 → ⊥) ss) qs
    owned [] all = tt
    owned (q ∷ qs) all = (
      beside q (elim (all q.place.0) [ inl none ↦ inl none.0 | inr none ↦ inr none ]),
      owned qs (λ thread. elim (all thread) [ inl none ↦ inl none.1 | inr none ↦ inr none ]),
    )

    pairs : Every (λ (r : Record). Every (λ (s : Record). r.place.0 ≡ s.place.0 → ⊥) ss) rs
    pairs = owned rs (λ thread. elim (apart thread) [ inl none ↦ inl (none_of thread rs none) | inr none ↦ inr none ])

-- The same where they claimed different threads.
pub gathered_worked : (plan : Plan) (v u : View) (xs ys : List ℕ) (rs ss : List Record) → ((x : ℕ) → times x xs + times x ys ≤ 1)
    → AreOf xs rs → AreOf ys ss → HasWorked plan v rs → HasWorked plan u ss → HasWorked plan (gathered_into v u) (rs ++ ss)
gathered_worked plan v u xs ys rs ss apart own other =
    gathered_apart plan v u rs ss
    (λ thread. elim (either_list xs ys apart thread) [ inl none ↦ inl (own thread none) | inr none ↦ inr (other thread none) ])

pub gathered_of : (xs ys : List ℕ) (rs ss : List Record) → AreOf xs rs → AreOf ys ss → AreOf (xs ++ ys) (rs ++ ss)
gathered_of xs ys rs ss h k thread none =
    let both = times_append thread xs ys in
    All-append (λ (r : Record). r.place.0 ≡ thread → ⊥) rs ss (h thread (omega (arith, both, none))) (k thread (omega (arith, both, none)))

pub none_both : (rs ss : List Record) → AbortsNone [] rs → AbortsNone [] ss → AbortsNone [] (rs ++ ss)
none_both rs ss h k place = let a = aborted_append place rs ss in let b = h place in let c = k place in omega (arith, a, b, c)

-- Once each thread has ended, each transaction of the file has, in the order of its thread.
pub all_have_ended : (file : File) (rs : List Record) → AreUnderWay file rs → ((thread : ℕ) → ended_of thread rs ≡ count_in file.threads thread) → IsOrder file (finished_places rs)
all_have_ended file rs h all thread = (h thread).order ∙ ap (numbers_from 1) (all thread)
