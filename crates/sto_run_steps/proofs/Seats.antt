-- The seats of script threads before and after a step of one of them.
use Rattle.std.specs.Prelude.{◌≢◌, ◌⊎◌, slice_get, Some, None, Option}
use Rattle.std.proofs.Common.{◌≡◌, ℕ, suc, ◌+◌, ◌-◌, ◌*◌, ◌<◌, ◌≤◌, List, [], ◌∷◌, ◌++◌, length, set, refl, sym, ap, ◌∙◌, subst, arith, Bool, true, false, true≢false, inl, inr}
use Rattle.std.proofs.lemmas.Bool.{cases_eq}
use Rattle.std.proofs.lemmas.List.{get_or-set_same, get_or-set_other, length-set}
use Rattle.std.proofs.lemmas.Option.{slice_get_within, get_or_from_slice_get, slice_get-get_or}
use Rattle.sto_core.specs.declared.view.View.{View}
use Rattle.sto_core.specs.Core.{Core}
use Rattle.sto_plain.specs.Passes.{view_of, IsSame}
use Rattle.sto_run_threads.specs.Orders.{TransactionPlace, count_in}
use Rattle.sto_history.specs.Records.{Record, is_abort}
use Rattle.sto_run_steps.specs.Counts.{attempts_left, events_left}
use Rattle.sto_run_steps.specs.Stepped.{HasMadeOne}
use Rattle.sto_run_steps.specs.Seated.{IsBetween, IsWithin, IsAt, IsIn, IsSeated, IsOverAt, AreOver, HasKept, AreSeated, events_of, WithinAt, BetweenAt, events_with, records_of}
use Rattle.sto_run_steps.specs.declared.seat.Seat.{Seat}
use Rattle.sto_run_steps.proofs.Counting.{fewer_tries, fewer_transactions, some_left, times_fewer}
use Rattle.sto_run_steps.proofs.Adding.{kept_aborted, kept_ended}
use Rattle.sto_run_threads.specs.Plans.{Plan, MayDraw}

-- a thread that is not over has a transaction and a try left
pub goes_on : (ended count left : ℕ) → ((ended ≡ count) ⊎ (left ≡ 0) → ⊥) → ended ≤ count → (ended < count) × (1 ≤ left)
goes_on ended count left going within = (
  elim (cases_eq ended count) [
    | inl is ↦ absurd (going (inl is))
    | inr other ↦ omega (arith, other, within)
  ],
  elim (cases_eq left 0) [
    | inl is ↦ absurd (going (inr is))
    | inr other ↦ omega (arith, other)
  ],
)

-- an attempt begins
pub begun_within : {M : Type 0} (plan : Plan) (passes thread ended left count : ℕ) (rs : List Record) (fits : M → View → View → Type 0) (trial : M) (v : View)
    → count ≡ count_in plan.file.threads thread → (ended < count) × (1 ≤ left) → ((u : View) → MayDraw plan 1 u → fits trial u u)
    → IsBetween plan passes thread ended left rs v → IsWithin plan passes thread ended left rs fits trial v
begun_within plan passes thread ended left count rs fits trial v counted going may h = record {
  begun = v;
  between = h;
  next = (let a = going.0 in omega (arith, a, counted));
  again = going.1;
  fits_now = may v (record {
    rests = h.rests;
    draws = (let a = h.draws in let b = some_left plan.tries left (count_in plan.file.threads thread) ended (let a = going.0 in omega (arith, a, counted)) going.1 in omega (arith, a, b));
  });
}

-- the attempt that runs
pub in_some : {M : Type 0} (within : M → View → Type 0) (o : Option M) (trial : M) (v : View) → o ≡ Some trial → IsIn within o v → within trial v
in_some {M} within o trial v is h = subst (λ (x : Option M). IsIn within x v) is h

pub all_events : {M : Type 0} (left : M → ℕ) (most : ℕ) (s : Seat M) (o : Option M) (trial : M) → o ≡ Some trial → events_with left most s o ≤ events_of left most s
    → events_with left most s (Some trial) ≤ events_of left most s
all_events {M} left most s o trial is h = subst (λ (x : Option M). events_with left most s x ≤ events_of left most s) is h

-- an attempt has ended
pub seat_kept : {M : Type 0} (plan : Plan) (fits : ℕ → TransactionPlace → M → View → View → Type 0) (passes thread : ℕ) (v w : View) (s later : Seat M) (r : Record)
    → s.count ≡ count_in plan.file.threads thread → s.tries ≡ plan.tries → (s.ended < s.count) × (1 ≤ s.left)
    → BetweenAt plan passes thread s v → HasMadeOne plan passes (thread, s.ended + 1) v w r
    → later.trial ≡ None → HasKept r s later → IsSeated plan fits passes thread w later
seat_kept {M} plan fits passes thread v w s later r counted each going h made idle kept = by (is_abort r.verdict) refl
  where
    next : s.ended < count_in plan.file.threads thread
    next = let a = going.0 in omega (arith, a, counted)

    placed : BetweenAt plan passes thread later w → later.ended ≤ later.count → IsSeated plan fits passes thread w later
    placed b within = record {
      counted = kept.counted ∙ counted;
      each = kept.each ∙ each;
      within = within;
      at = subst (λ (o : Option M). IsAt (BetweenAt plan passes thread later) (WithinAt plan fits passes thread later) o w) (sym idle) b;
    }

    of : (ended left : ℕ) → later.ended ≡ ended → later.left ≡ left → IsBetween plan passes thread ended left (records_of s ++ r ∷ []) w
        → BetweenAt plan passes thread later w
    of ended left a b k =
        subst (λ (l : List Record). IsBetween plan passes thread later.ended later.left l w) (sym kept.added)
        (subst (λ (n : ℕ). IsBetween plan passes thread later.ended n (records_of s ++ r ∷ []) w) (sym b)
        (subst (λ (n : ℕ). IsBetween plan passes thread n left (records_of s ++ r ∷ []) w) (sym a) k))

    by : (b : Bool) → is_abort r.verdict ≡ b → IsSeated plan fits passes thread w later
    by true is =
        let k = kept.aborted is in
        placed (of s.ended later.left k.0 refl (kept_aborted plan passes thread s.ended s.left v w (records_of s) r h next going.1 made later.left is k.1))
        (let a = k.0 in let c = kept.counted in let g = going.0 in omega (arith, a, c, g))
    by false is =
        let k = kept.ended is in
        placed (of (s.ended + 1) plan.tries k.0 (k.1 ∙ each) (kept_ended plan passes thread s.ended s.left v w (records_of s) r h next going.1 made is))
        (let a = k.0 in let c = kept.counted in let g = going.0 in omega (arith, a, c, g))

-- there is one attempt fewer
kept_fewer : {M : Type 0} (s later : Seat M) (r : Record) → (s.ended < s.count) × (1 ≤ s.left) → HasKept r s later
    → attempts_left later.tries later.left (later.count - later.ended) + 1 ≤ attempts_left s.tries s.left (s.count - s.ended)
kept_fewer s later r going kept = by (is_abort r.verdict) refl
  where
    same : (ended left : ℕ) → later.ended ≡ ended → later.left ≡ left → attempts_left later.tries later.left (later.count - later.ended) ≡ attempts_left s.tries left (s.count - ended)
    same ended left a b = λ i. attempts_left (kept.each i) (b i) (kept.counted i - a i)

    by : (b : Bool) → is_abort r.verdict ≡ b → attempts_left later.tries later.left (later.count - later.ended) + 1 ≤ attempts_left s.tries s.left (s.count - s.ended)
    by true is =
        let k = kept.aborted is in
        let a = same s.ended later.left k.0 refl in
        let g = going.0 in
        let b = fewer_tries s.tries s.left later.left (s.count - s.ended) (omega (arith, g)) k.1 in omega (arith, a, b)
    by false is =
        let k = kept.ended is in
        let a = same (s.ended + 1) s.tries k.0 k.1 in
        let b = fewer_transactions s.tries s.left s.count s.ended going.0 in
        let c = going.1 in omega (arith, a, b, c)

-- so there are fewer events than with the attempt
pub kept_events : {M : Type 0} (left : M → ℕ) (most : ℕ) (s later : Seat M) (r : Record) (trial : M) → (s.ended < s.count) × (1 ≤ s.left) → HasKept r s later
    → later.trial ≡ None → 0 < left trial → events_of left most later < events_with left most s (Some trial)
kept_events {M} left most s later r trial going kept idle some =
    let e : events_of left most later ≡ attempts_left later.tries later.left (later.count - later.ended) * suc most =
    ap (λ (o : Option M). events_left left most (attempts_left later.tries later.left (later.count - later.ended)) o) idle in
    let f = times_fewer (attempts_left later.tries later.left (later.count - later.ended)) (attempts_left s.tries s.left (s.count - s.ended)) (suc most) (kept_fewer s later r going kept) in
    omega (arith, e, f, some)

-- a list with one item set
set_same : {X : Type 0} (xs : List X) (i : ℕ) (y x : X) → slice_get (set xs i y) i ≡ Some x → y ≡ x
set_same xs i y x at =
    let within = slice_get_within (set xs i y) i x at in
    let long = length-set xs i y in
    sym (get_or-set_same xs i y x (omega (arith, within, long))) ∙ get_or_from_slice_get (set xs i y) i x x at

set_other : {X : Type 0} (xs : List X) (i j : ℕ) (y x : X) → j ≢ i → slice_get (set xs i y) j ≡ Some x → slice_get xs j ≡ Some x
set_other xs i j y x other at =
    let within = slice_get_within (set xs i y) j x at in
    let long = length-set xs i y in
    slice_get-get_or xs j x (omega (arith, within, long)) ∙ ap Some (sym (get_or-set_other xs i j y x other) ∙ get_or_from_slice_get (set xs i y) j x x at)

-- A step of one pass leaves the other threads as they are.
pub seated_after : {M : Type 0} (plan : Plan) (fits : ℕ → TransactionPlace → M → View → View → Type 0) (c d : Core) (seats : List (Seat M)) (thread : ℕ) (later : Seat M)
    → AreSeated plan fits c seats → IsSame c thread d thread → IsSeated plan fits (length c.statuses) thread (view_of d thread) later
    → AreSeated plan fits d (set seats thread later)
seated_after {M} plan fits c d seats thread later h same mine = record {
  views = same.2 ∙ h.views ∙ sym (length-set seats thread later);
  statuses = same.1 ∙ h.statuses ∙ sym (length-set seats thread later);
  few = (let a = h.few in let b = length-set seats thread later in omega (arith, a, b));
  each = λ u s at. elim (cases_eq u thread) [
    | inl own ↦ subst (λ (n : ℕ). IsSeated plan fits n u (view_of d u) s) (sym same.1)
        (subst (λ (n : ℕ). IsSeated plan fits (length c.statuses) n (view_of d n) s) (sym own)
        (subst (λ (x : Seat M). IsSeated plan fits (length c.statuses) thread (view_of d thread) x)
        (set_same seats thread later s (subst (λ (n : ℕ). slice_get (set seats thread later) n ≡ Some s) own at)) mine))
    | inr other ↦ subst (λ (n : ℕ). IsSeated plan fits n u (view_of d u) s) (sym same.1)
        (subst (λ (v : View). IsSeated plan fits (length c.statuses) u v s) (sym (same.3 u other))
        (h.each u s (set_other seats thread u later s other at)))
  ];
}

-- The same, where the pass steps apart from the seats.
pub turned : {M : Type 0} (plan : Plan) (fits : ℕ → TransactionPlace → M → View → View → Type 0) (c d a b : Core) (i j : ℕ) (seats : List (Seat M)) (thread : ℕ) (later : Seat M)
    → a ≡ c → i ≡ thread → d ≡ b → AreSeated plan fits c seats → IsSame a i b j → IsSeated plan fits (length a.statuses) thread (view_of b j) later
    → AreSeated plan fits d (set seats thread later)
turned {M} plan fits c d a b i j seats thread later words pass back h same mine =
    let to : j ≡ thread = same.0 ∙ pass in
    let from : IsSame c thread b j = subst (λ (x : Core). IsSame x thread b j) words (subst (λ (n : ℕ). IsSame a n b j) pass same) in
    let all : IsSame c thread d thread = subst (λ (x : Core). IsSame c thread x thread) (sym back) (subst (λ (n : ℕ). IsSame c thread b n) to from) in
    let own : IsSeated plan fits (length c.statuses) thread (view_of d thread) later =
    subst (λ (x : Core). IsSeated plan fits (length c.statuses) thread (view_of x thread) later) (sym back)
    (subst (λ (n : ℕ). IsSeated plan fits (length c.statuses) thread (view_of b n) later) to
    (subst (λ (x : Core). IsSeated plan fits (length x.statuses) thread (view_of b j) later) words mine)) in
    seated_after plan fits c d seats thread later h all own

over_more : {M : Type 0} (thread : ℕ) (seats : List (Seat M)) → AreOver thread seats → IsOverAt thread seats → AreOver (thread + 1) seats
over_more thread seats h here u low = elim (cases_eq u thread) [
  | inl same ↦ subst (λ (n : ℕ). IsOverAt n seats) (sym same) here
  | inr other ↦ h u (omega (arith, low, other))
]

-- One more turn of a round: an event was made, or all threads so far are over.
pub round_more : {M : Type 0} (E : List (Seat M) → ℕ) (now was made : Bool) (first seats next : List (Seat M)) (thread : ℕ)
    → (was ≡ true → E seats < E first) → (was ≡ false → (seats ≡ first) × AreOver thread first)
    → (made ≡ true → E next < E seats) → (made ≡ false → (next ≡ seats) × IsOverAt thread seats)
    → ((was ≡ true) × (now ≡ true)) ⊎ ((was ≡ false) × (now ≡ made))
    → (now ≡ true → E next < E first) × (now ≡ false → (next ≡ first) × AreOver (thread + 1) first)
round_more {M} E now was made first seats next thread fewer rest less over how = elim how [
  | inl on ↦ (λ e. moved made refl (fewer on.0), λ e. absurd (true≢false (sym on.1 ∙ e)))
  | inr off ↦
      let same = rest off.0 in (
        λ e. (let a = less (sym off.1 ∙ e) in let b = ap E same.0 in omega (arith, a, b)),
        λ e. (let k = over (sym off.1 ∙ e) in (k.0 ∙ same.0, over_more thread first same.1 (subst (λ (l : List (Seat M)). IsOverAt thread l) same.0 k.1))),
      )
]
  where
    moved : (b : Bool) → made ≡ b → E seats < E first → E next < E first
    moved true is l = let a = less is in omega (arith, a, l)
    moved false is l = let a = ap E (over is).0 in omega (arith, a, l)
