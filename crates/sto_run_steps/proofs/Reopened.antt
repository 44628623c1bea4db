-- Threads that are all over: their words are closed and reopened.
use Rattle.std.specs.Prelude.{nat_lt, if◌then◌else◌, slice_get, Some, None, Option}
use Rattle.std.specs.List.{flat_map}
use Rattle.std.proofs.Common.{◌≡◌, ℕ, suc, ◌+◌, ◌<◌, ◌≤◌, List, [], ◌∷◌, ◌++◌, map, length, refl, sym, ap, ◌∙◌, subst, arith, Bool, true, false, inl, inr}
use Rattle.std.proofs.lemmas.Bool.{cases_eq}
use Rattle.std.proofs.lemmas.Bool.Decides.{nat_tests}
use Rattle.std.proofs.lemmas.List.{map-append}
use Rattle.std.proofs.lemmas.Option.{slice_get_within}
use Rattle.sto_core.specs.declared.view.View.{View}
use Rattle.sto_core.specs.Allowed.{IsIdle}
use Rattle.sto_core.specs.Closed.{ClosedWords, closed_core, live_view, reopened_from, AreClosed}
use Rattle.sto_core.specs.Core.{Core}
use Rattle.sto_core.specs.History.{Validity}
use Rattle.sto_core.specs.Lists.{Each}
use Rattle.sto_core.specs.Rule.{total}
use Rattle.sto_plain.specs.Passes.{view_at, view_of}
use Rattle.sto_run_threads.specs.Orders.{TransactionPlace}
use Rattle.sto_history.specs.Records.{Record, times_written}
use Rattle.sto_history.specs.Counted.{times_committed}
use Rattle.sto_transaction.specs.Plain.{plain}
use Rattle.sto_run_threads.specs.Worked.{HasWorked, AbortsNone}
use Rattle.sto_run_steps.specs.Seated.{IsBetween, IsAt, IsSeated, IsOver, AreSeated, AreOver, records_of, WithinAt, BetweenAt}
use Rattle.sto_run_steps.specs.declared.seat.Seat.{Seat}
use Rattle.sto_run_steps.proofs.Gathered.{HasRested, HaveRested, gathered, all_idle}
use Rattle.sto_run_threads.specs.Plans.{Plan, Rests, draws_of}

-- a thread that is over runs no attempt
over_between : {M : Type 0} (plan : Plan) (fits : ℕ → TransactionPlace → M → View → View → Type 0) (passes thread : ℕ) (v : View) (s : Seat M)
    → IsSeated plan fits passes thread v s → IsOver s → BetweenAt plan passes thread s v
over_between {M} plan fits passes thread v s h over = by s.trial h.at
  where
    by : (o : Option M) → IsAt (BetweenAt plan passes thread s) (WithinAt plan fits passes thread s) o v
        → BetweenAt plan passes thread s v
    by None k = k
    by (Some trial) k = absurd (elim over [
      | inl all ↦ (let a = h.counted in let b = k.next in omega (arith, all, a, b))
      | inr none ↦ (let b = k.again in omega (arith, none, b))
    ])

rested : (plan : Plan) (passes thread ended left : ℕ) (rs : List Record) (v : View)
    → IsBetween plan passes thread ended left rs v → HasRested plan passes (draws_of plan) thread v rs
rested plan passes thread ended left rs v h = record {
  rests = h.rests;
  worked = h.worked;
  tickets = h.tickets;
  own = h.own;
  draws = (let a = h.draws in omega (arith, a));
  alone = h.alone;
}

-- what holds at each place holds of all
all_rested : {X : Type 0} (R : X → List Record) (plan : Plan) (passes need first : ℕ) (views : List View) (xs : List X) → length views ≡ length xs
    → ((i : ℕ) (x : X) → slice_get xs i ≡ Some x → HasRested plan passes need (first + i) (view_at views i) (R x)) → HaveRested R plan passes need first views xs
all_rested R plan passes need first [] [] long h = tt
all_rested R plan passes need first [] (x ∷ xs) long h = absurd (omega (arith, long))
all_rested R plan passes need first (v ∷ vs) [] long h = absurd (omega (arith, long))
all_rested {X} R plan passes need first (v ∷ vs) (x ∷ xs) long h = (
  subst (λ (n : ℕ). HasRested plan passes need n v (R x)) (omega arith) (h 0 x refl),
  all_rested R plan passes need (suc first) vs xs (omega (arith, long)) rest,
)
  where
    rest : (i : ℕ) (y : X) → slice_get xs i ≡ Some y → HasRested plan passes need (suc first + i) (view_at vs i) (R y)
    rest i y at = let e : first + suc i ≡ suc first + i = omega arith in subst (λ (n : ℕ). HasRested plan passes need n (view_at vs i) (R y)) e (h (suc i) y at)

-- a view that stands for some pass is one of these
live_is : {X : Type 0} (R : X → List Record) (plan : Plan) (passes need first : ℕ) (views : List View) (xs : List X)
    → HaveRested R plan passes need first views xs → 0 < total (λ (v : View). v.gathered) views
    → ((live_view views).sizes ≡ plan.sizes) × ((live_view views).opening ≡ plan.meaning.opened) × (1 ≤ length views)
live_is R plan passes need first [] [] h some = absurd (omega (arith, some))
live_is R plan passes need first [] (x ∷ xs) h some = absurd h
live_is R plan passes need first (v ∷ vs) [] h some = absurd h
live_is R plan passes need first (v ∷ vs) (x ∷ xs) h some = elim (cases_eq v.gathered 0) [
  | inl none ↦
      let e : nat_lt 0 v.gathered ≡ false = grind (arith, nat_tests, none) in
      let k = live_is R plan passes need (suc first) vs xs h.1 (omega (arith, none, some)) in
      let is : live_view (v ∷ vs) ≡ live_view vs = ap (λ (b : Bool). if b then v else live_view vs) e in (ap (λ (u : View). u.sizes) is ∙ k.0, ap (λ (u : View). u.opening) is ∙ k.1, omega arith)
  | inr live ↦
      let e : nat_lt 0 v.gathered ≡ true = grind (arith, nat_tests, live) in
      let is : live_view (v ∷ vs) ≡ v = ap (λ (b : Bool). if b then v else live_view vs) e in
      (ap (λ (u : View). u.sizes) is ∙ h.0.rests.sized, ap (λ (u : View). u.opening) is ∙ h.0.rests.opened, omega arith)
]

-- what the pass of the reopened words knows
pub record IsReopened (plan : Plan) (passes : ℕ) (rs : List Record) (v : View) : Type 0 where
  pub rests : Rests plan v
  pub worked : HasWorked plan v rs
  pub tickets : (t : ℕ) → times_written t rs ≡ times_committed t v.entries
  pub draws : draws_of plan ≤ v.draws
  pub alone : passes ≡ 1 → AbortsNone [] rs

module _ {M : Type 0} (plan : Plan) (fits : ℕ → TransactionPlace → M → View → View → Type 0) (c : Core) (seats : List (Seat M))
    (h : AreSeated plan fits c seats) (over : AreOver (length seats) seats) where
  have_rested : HaveRested records_of plan (length c.statuses) (draws_of plan) 0 c.views seats
  have_rested = all_rested records_of plan (length c.statuses) (draws_of plan) 0 c.views seats h.views (λ i s at.
      let e : i ≡ 0 + i = omega arith in
      subst (λ (n : ℕ). HasRested plan (length c.statuses) (draws_of plan) n (view_at c.views i) (records_of s)) e
      (rested plan (length c.statuses) i s.ended s.left (records_of s) (view_at c.views i)
      (over_between plan fits (length c.statuses) i (view_at c.views i) s (h.each i s at) (over i (slice_get_within seats i s at) s at))))

  -- each thread has a record for each start of its pass
  pub over_made : (thread : ℕ) (s : Seat M) → slice_get seats thread ≡ Some s → length (records_of s) ≡ (view_of c thread).starts
  over_made thread s at =
      let between = over_between plan fits (length c.statuses) thread (view_at c.views thread) s (h.each thread s at) (over thread (slice_get_within seats thread s at) s at) in
      sym between.starts

  pub over_idle : Each (λ (v : View). IsIdle v.phase) c.views
  over_idle = all_idle records_of plan (length c.statuses) (draws_of plan) 0 c.views seats have_rested

  pub over_reopened : (valid : Validity) (w : ClosedWords) (p : Core) → closed_core w c.statuses ≡ c → AreClosed valid w → p ≡ reopened_from w
      → IsReopened plan (length c.statuses) (flat_map records_of seats) (view_of p 0)
  over_reopened valid w p words closed is =
      let same : w.views ≡ c.views = ap (λ (d : Core). d.views) words in
      let rest = subst (λ (vs : List View). HaveRested records_of plan (length c.statuses) (draws_of plan) 0 vs seats) (sym same) have_rested in
      let many = closed.rule.1.gathered in
      let some' = closed.some_pass in
      let live = live_is records_of plan (length c.statuses) (draws_of plan) 0 w.views seats rest (omega (arith, many, some')) in
      let all = gathered records_of plan (length c.statuses) (draws_of plan) (live_view w.views).sizes (live_view w.views).opening 0 w.views seats rest in
      subst (λ (d : Core). IsReopened plan (length c.statuses) (flat_map records_of seats) (view_of d 0)) (sym is) (record {
        rests = record { idle = tt; held = refl; settled = all.settled; sized = live.0; opened = live.1 };
        worked = all.worked;
        tickets = all.tickets;
        draws = all.draws live.2;
        alone = all.alone;
      })

-- the records of all, as plain data
pub all_records : {M : Type 0} (seats : List (Seat M)) → map plain (flat_map (λ (s : Seat M). s.records.items) seats) ≡ flat_map records_of seats
all_records [] = refl
all_records {M} (s ∷ seats) = map-append plain s.records.items (flat_map (λ (x : Seat M). x.records.items) seats) ∙ ap (λ (l : List Record). records_of s ++ l) (all_records seats)
