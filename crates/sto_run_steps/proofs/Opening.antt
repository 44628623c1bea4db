-- Words that were just opened, with a seat for each of their passes.
use Rattle.std.specs.Prelude.{◌⊎◌, ◌^◌, slice_get, Some, Option}
use Rattle.std.proofs.Common.{◌≡◌, ℕ, zero, suc, ◌+◌, ◌-◌, ◌*◌, ◌<◌, ◌≤◌, List, [], ◌∷◌, ◌++◌, map, length, refl, sym, ap, ◌∙◌, subst, arith, inl, inr}
use Rattle.std.proofs.lemmas.List.{length-replicate}
use Rattle.std.proofs.lemmas.List.Elements.{All-nil}
use Rattle.std.proofs.lemmas.Option.{slice_get_within}
use Rattle.sto_lang.specs.Scripts.{Script}
use Rattle.sto_core.specs.declared.view.View.{View}
use Rattle.sto_core.specs.Core.{Core}
use Rattle.sto_core.specs.History.{Contents}
use Rattle.sto_core.specs.Opened.{opened_core, opened_view, opened_views, opening_draws}
use Rattle.sto_plain.specs.Passes.{view_at}
use Rattle.sto_run_threads.specs.Orders.{TransactionPlace, count_in}
use Rattle.sto_history.specs.Records.{Record}
use Rattle.sto_transaction.specs.Plain.{plain}
use Rattle.sto_run_threads.specs.Counts.{scripts_from}
use Rattle.sto_run_threads.proofs.Claiming.{thread_within, times_le}
use Rattle.sto_run_threads.proofs.Joined.{none_worked}
use Rattle.sto_transaction.proofs.Resting.{opened_rests}
use Rattle.sto_run_steps.specs.Counts.{attempts_left}
use Rattle.sto_run_steps.specs.Seated.{IsBetween, IsAt, IsSeated, IsNew, AreNew, AreSeated, WithinAt, BetweenAt}
use Rattle.sto_run_steps.specs.declared.seat.Seat.{Seat}
use Rattle.sto_run_threads.specs.Plans.{Plan, draws_of}

-- one more item
snoc_at : {X : Type 0} (xs : List X) (y : X) (i : ℕ) (x : X) → slice_get (xs ++ y ∷ []) i ≡ Some x → (slice_get xs i ≡ Some x) ⊎ ((i ≡ length xs) × (Some y ≡ Some x))
snoc_at [] y zero x at = inr (refl, at)
snoc_at [] y (suc i) x at = inl at
snoc_at (z ∷ xs) y zero x at = inl at
snoc_at (z ∷ xs) y (suc i) x at = elim (snoc_at xs y i x at) [
  | inl there ↦ inl there
  | inr here ↦ inr (ap suc here.0, here.1)
]

pub new_more : {M : Type 0} (plan : Plan) (thread count : ℕ) (seats : List (Seat M)) (s : Seat M) → length seats ≡ thread → count ≡ count_in plan.file.threads thread
    → AreNew plan seats → IsNew count plan.tries s → AreNew plan (seats ++ s ∷ [])
new_more {M} plan thread count seats s many counted h new i x at = elim (snoc_at seats s i x at) [
  | inl there ↦ h i x there
  | inr here ↦
      let new' : IsNew (count_in plan.file.threads i) plan.tries s = subst (λ (n : ℕ). IsNew n plan.tries s) (counted ∙ ap (count_in plan.file.threads) (sym (here.0 ∙ many))) new in
      subst (λ (o : Option (Seat M)). (y : Seat M) → o ≡ Some y → IsNew (count_in plan.file.threads i) plan.tries y) here.1 (λ y e. subst (λ (z : Seat M). IsNew (count_in plan.file.threads i) plan.tries z) (same s y e) new') x refl
]
  where
    same : (y z : Seat M) → Some y ≡ Some z → y ≡ z
    same y z e = cc

-- a thread that the file does not have has no transactions
pub none_past : (threads : List (List Script)) (t : ℕ) → length threads ≤ t → count_in threads t ≡ 0
none_past [] t l = refl
none_past (x ∷ threads) zero l = absurd (omega (arith, l))
none_past (x ∷ threads) (suc t) l = none_past threads t (omega (arith, l))

-- the view of a pass that was just opened
opened_at : (sizes : List ℕ) (opening : Contents) (first n i : ℕ) → i < n → view_at (opened_views sizes opening first n) i ≡ opened_view sizes opening (first + i)
opened_at sizes opening first zero i l = absurd (omega (arith, l))
opened_at sizes opening first (suc n) zero l = let e : first ≡ first + 0 = omega arith in ap (opened_view sizes opening) e
opened_at sizes opening first (suc n) (suc i) l =
    let e : suc first + i ≡ first + suc i = omega arith in opened_at sizes opening (suc first) n i (omega (arith, l)) ∙ ap (opened_view sizes opening) e

opened_many : (sizes : List ℕ) (opening : Contents) (first n : ℕ) → length (opened_views sizes opening first n) ≡ n
opened_many sizes opening first zero = refl
opened_many sizes opening first (suc n) = ap suc (opened_many sizes opening (suc first) n)

-- all attempts that a thread may make
most_attempts : (tries n : ℕ) → attempts_left tries tries n ≤ tries * n
most_attempts tries zero = omega arith
most_attempts tries (suc n) = let e : tries * suc n ≡ tries + tries * n = omega arith in omega (arith, e)

module _ (plan : Plan) (few : draws_of plan + draws_of plan ≤ opening_draws) where
  opened_between : (passes number thread : ℕ) → IsBetween plan passes thread 0 plan.tries [] (opened_view plan.sizes plan.meaning.opened number)
  opened_between passes number thread = record {
    rests = opened_rests plan.meaning plan.sizes plan.meaning.opened number refl;
    worked = none_worked plan (opened_view plan.sizes plan.meaning.opened number) [] refl (omega arith);
    tickets = λ t. refl;
    own = λ u other. All-nil (λ (r : Record). r.place.0 ≡ u → ⊥);
    starts = refl;
    so_many = refl;
    tried = omega arith;
    spared = λ position low high. absurd (omega (arith, low, high));
    draws =
        (let a = most_attempts plan.tries (count_in plan.file.threads thread - 0) in
        let e : count_in plan.file.threads thread - 0 ≡ count_in plan.file.threads thread = omega arith in
        let f = ap (λ (n : ℕ). plan.tries * n) e in
        let b = times_le plan.tries (count_in plan.file.threads thread) (scripts_from plan.file.threads 0) (scripts_from plan.file.threads (suc thread)) (thread_within plan.file.threads thread 0 (omega arith)) in
        omega (arith, a, f, b, few));
    alone = λ one place. refl;
  }

  -- a thread of which nothing has begun
  new_seated : {M : Type 0} (fits : ℕ → TransactionPlace → M → View → View → Type 0) (passes thread : ℕ) (v : View) (s : Seat M) → v ≡ opened_view plan.sizes plan.meaning.opened thread → IsNew (count_in plan.file.threads thread) plan.tries s
      → IsSeated plan fits passes thread v s
  new_seated {M} fits passes thread v s is new = record {
    counted = new.counted;
    each = new.each;
    within = (let a = new.none_ended in omega (arith, a));
    at = subst (λ (o : Option M). IsAt (BetweenAt plan passes thread s) (WithinAt plan fits passes thread s) o v) (sym new.idle)
        (subst (λ (rs : List Record). IsBetween plan passes thread s.ended s.left rs v) (sym (ap (map plain) new.no_records))
        (subst (λ (n : ℕ). IsBetween plan passes thread s.ended n [] v) (sym new.all_left)
        (subst (λ (n : ℕ). IsBetween plan passes thread n plan.tries [] v) (sym new.none_ended)
        (subst (λ (u : View). IsBetween plan passes thread 0 plan.tries [] u) (sym is) (opened_between passes thread thread)))));
  }

  pub opened_seated : {M : Type 0} (fits : ℕ → TransactionPlace → M → View → View → Type 0) (c : Core) (seats : List (Seat M)) → length seats < 2 ^ 32 → c ≡ opened_core plan.sizes plan.meaning.opened (length seats) → AreNew plan seats
      → AreSeated plan fits c seats
  opened_seated {M} fits c seats small is new = subst (λ (d : Core). AreSeated plan fits d seats) (sym is) (record {
    views = opened_many plan.sizes plan.meaning.opened 0 (length seats);
    statuses = length-replicate (length seats) 0;
    few = small;
    each = λ thread s at. new_seated fits _ thread (view_at (opened_views plan.sizes plan.meaning.opened 0 (length seats)) thread) s
        (opened_at plan.sizes plan.meaning.opened 0 (length seats) thread (slice_get_within seats thread s at) ∙ ap (opened_view plan.sizes plan.meaning.opened) (plus_none thread)) (new thread s at);
  })
    where
      plus_none : (n : ℕ) → 0 + n ≡ n
      plus_none n = omega arith
