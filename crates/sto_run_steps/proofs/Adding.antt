-- The record of an attempt that has ended is added to those of its thread.
use Rattle.std.specs.Prelude.{◌&&◌, if◌then◌else◌, ◌==◌, not}
use Rattle.std.proofs.Common.{◌≡◌, ℕ, suc, ◌+◌, ◌-◌, ◌<◌, ◌≤◌, List, [], ◌∷◌, ◌++◌, map, length, refl, sym, ap, ◌∙◌, subst, arith, Bool, true, false, true≢false, cond, eq-eqb}
use Rattle.std.proofs.lemmas.List.Elements.{All-cons, All-nil}
use Rattle.sto_model.specs.Run.{Behaviour}
use Rattle.sto_script.specs.Meaning.{meaning_of}
use Rattle.sto_type.specs.Meaning.{Meaning}
use Rattle.sto_core.specs.declared.view.View.{View}
use Rattle.sto_run_threads.specs.Orders.{TransactionPlace, count_in}
use Rattle.sto_history.specs.Records.{Record, is_abort}
use Rattle.sto_history.specs.Counted.{aborted_times, finished_places}
use Rattle.sto_history.specs.Added.{IsAdded, HasAdded}
use Rattle.sto_history.specs.Tried.{HasTried}
use Rattle.sto_history.specs.Trying.{AreFound}
use Rattle.sto_history.specs.Told.{IsFound}
use Rattle.sto_serializability.proofs.Chains.{Every}
use Rattle.sto_serializability.proofs.Working.{times_append, aborted_append}
use Rattle.sto_run_threads.specs.Running.{ended_of}
use Rattle.sto_run_threads.specs.Worked.{IsNext}
use Rattle.sto_run_threads.proofs.Claiming.{snoc_length}
use Rattle.sto_run_threads.proofs.Runs.{next_more, spared_more}
use Rattle.sto_run_steps.specs.Stepped.{HasMadeOne}
use Rattle.sto_run_steps.specs.Seated.{IsBetween}
use Rattle.sto_run_steps.proofs.Counting.{fewer_tries, fewer_transactions}
use Rattle.sto_run_threads.specs.Plans.{Plan, pace_of}
use Rattle.sto_run_threads.proofs.Pace.{one_paced}

counted : (a b c : Bool) → a ≡ true → b ≡ true → c ≡ true → ◌≡◌ {A = ℕ} ((if a && (b && c) then 1 else 0) + 0) 1
counted true true true p q r = refl
counted false b c p q r = absurd (true≢false (sym p))
counted true false c p q r = absurd (true≢false (sym q))
counted true true false p q r = absurd (true≢false (sym r))

not_counted : (a b c : Bool) → c ≡ false → ◌≡◌ {A = ℕ} ((if a && (b && c) then 1 else 0) + 0) 0
not_counted true true true r = absurd (true≢false r)
not_counted true true false r = refl
not_counted true false c r = refl
not_counted false b c r = refl

aborted_one : (place : TransactionPlace) (r : Record) → r.place ≡ place → is_abort r.verdict ≡ true → aborted_times place (r ∷ []) ≡ 1
aborted_one place r here is =
    counted (r.place.0 == place.0) (r.place.1 == place.1) (is_abort r.verdict)
    (eq-eqb r.place.0 place.0 (ap (λ (p : TransactionPlace). p.0) here)) (eq-eqb r.place.1 place.1 (ap (λ (p : TransactionPlace). p.1) here)) is

ended_one : (place : TransactionPlace) (r : Record) → is_abort r.verdict ≡ false → aborted_times place (r ∷ []) ≡ 0
ended_one place r is = not_counted (r.place.0 == place.0) (r.place.1 == place.1) (is_abort r.verdict) is

-- one attempt, as a run of its transaction
one_added : (m : Meaning) (tries : ℕ) (v w : View) (f : Behaviour) (place : TransactionPlace) (r : Record) → aborted_times place (r ∷ []) ≤ tries → HasTried m v w f place r → HasAdded m tries v w f place (r ∷ [])
one_added m tries v w f place r few t = record {
  grows = t.grows;
  entries = λ n. (let a = t.committed n in omega (arith, a));
  each = All-cons (IsAdded m v w f place) r [] t.added (All-nil (IsAdded m v w f place));
  threads = (All-nil _, tt);
  few = few;
}

one_found : (m : Meaning) (v w : View) (f : Behaviour) (place : TransactionPlace) (r : Record) → HasTried m v w f place r → AreFound w (v.starts + 1) (r ∷ [])
one_found m v w f place r t = (subst (λ (k : ℕ). IsFound w k r.verdict) t.starts t.found, tt)

finished_by : (b : Bool) (r : Record) → is_abort r.verdict ≡ b → finished_places (r ∷ []) ≡ (if not b then r.place ∷ [] else [])
finished_by b r is = ap (λ (c : Bool). map (λ (x : Record). x.place) (cond (not c) (r ∷ []) [])) is ∙ by b
  where
    by : (c : Bool) → map (λ (x : Record). x.place) (cond (not c) (r ∷ []) []) ≡ (if not c then r.place ∷ [] else [])
    by true = refl
    by false = refl

module _ (plan : Plan) (passes thread ended left : ℕ) (v w : View) (rs : List Record) (r : Record)
    (h : IsBetween plan passes thread ended left rs v) (next : ended < count_in plan.file.threads thread) (again : 1 ≤ left)
    (made : HasMadeOne plan passes (thread, ended + 1) v w r) where
  -- at the position after those that have ended
  here : HasMadeOne plan passes (thread, suc (ended_of thread rs)) v w r
  here = subst (λ (p : ℕ). HasMadeOne plan passes (thread, p) v w r) (let e = h.so_many in omega (arith, e)) made

  few : (b : Bool) → is_abort r.verdict ≡ b → aborted_times (thread, suc (ended_of thread rs)) (r ∷ []) ≤ 1
  few true is = let a = aborted_one (thread, suc (ended_of thread rs)) r here.tried.added.placed is in omega (arith, a)
  few false is = let a = ended_one (thread, suc (ended_of thread rs)) r is in omega (arith, a)

  tried : aborted_times (thread, suc (ended_of thread rs)) rs + left ≡ plan.tries
  tried = subst (λ (n : ℕ). aborted_times (thread, suc n) rs + left ≡ plan.tries) (sym h.so_many) h.tried

  longer : (b : Bool) → is_abort r.verdict ≡ b → IsNext plan w thread rs (rs ++ r ∷ []) (not b)
  longer b is =
      next_more plan v w thread rs (r ∷ []) here.script (not b) h.worked (let e = h.so_many in omega (arith, e, next)) here.there
      (one_added plan.meaning plan.tries v w (meaning_of here.script) (thread, suc (ended_of thread rs)) r (let a = few b is in let t = tried in omega (arith, a, t, again)) here.tried)
      (one_found plan.meaning v w (meaning_of here.script) (thread, suc (ended_of thread rs)) r here.tried)
      (let a = few b is in let t = tried in omega (arith, a, t, again))
      (λ position low high all. absurd (let s = h.spared position low (omega (arith, high)) in omega (arith, s, all)))
      (finished_by b r is ∙ at_place b)
      (one_paced (pace_of plan) v w here.steps here.tried.starts)
    where
      at_place : (c : Bool) → (if not c then r.place ∷ [] else []) ≡ (if not c then (thread, suc (ended_of thread rs)) ∷ [] else [])
      at_place true = refl
      at_place false = ap (λ (p : TransactionPlace). p ∷ []) here.tried.added.placed

  placed : Every (λ (x : Record). x.place ≡ (thread, suc (ended_of thread rs))) (r ∷ [])
  placed = (here.tried.added.placed, tt)

  one_start : w.starts ≡ length (rs ++ r ∷ [])
  one_start = let a = h.starts in let b = here.tried.starts in let c = snoc_length rs r in omega (arith, a, b, c)

  -- the attempt was aborted
  pub kept_aborted : (later : ℕ) → is_abort r.verdict ≡ true → later + 1 ≡ left → IsBetween plan passes thread ended later (rs ++ r ∷ []) w
  kept_aborted later is used =
      let k = longer true is in record {
        rests = here.rests;
        worked = k.worked;
        tickets = λ t. (let a = times_append t rs (r ∷ []) in let b = h.tickets t in let c = here.tried.committed t in omega (arith, a, b, c));
        own = λ u other. k.adds.apart u other (h.own u other);
        starts = one_start;
        so_many = k.left refl ∙ h.so_many;
        tried = (let a = aborted_append (thread, suc ended) rs (r ∷ []) in
            let b = aborted_one (thread, suc ended) r (here.tried.added.placed ∙ ap (λ (n : ℕ). (thread, suc n)) h.so_many) is in
            let c = h.tried in omega (arith, a, b, c, used));
        spared = spared_more plan.tries thread rs (r ∷ []) placed (let n = k.left refl in omega (arith, n)) (λ e. absurd (let n = k.left refl in omega (arith, n, e))) h.spared;
        draws = (let a = h.draws in let b = here.tried.draws in
            let c = fewer_tries plan.tries left later (count_in plan.file.threads thread - ended) (omega (arith, next)) used in omega (arith, a, b, c));
        alone = λ one. absurd (true≢false (sym is ∙ here.alone one));
      }

  -- the transaction has ended
  pub kept_ended : is_abort r.verdict ≡ false → IsBetween plan passes thread (ended + 1) plan.tries (rs ++ r ∷ []) w
  kept_ended is =
      let k = longer false is in record {
        rests = here.rests;
        worked = k.worked;
        tickets = λ t. (let a = times_append t rs (r ∷ []) in let b = h.tickets t in let c = here.tried.committed t in omega (arith, a, b, c));
        own = λ u other. k.adds.apart u other (h.own u other);
        starts = one_start;
        so_many = (let a = (k.more refl).0 in let b = h.so_many in omega (arith, a, b));
        tried = (let a = subst (λ (n : ℕ). aborted_times (thread, suc n) (rs ++ r ∷ []) ≡ 0)
            (let a = (k.more refl).0 in let b = h.so_many in let e : ended_of thread (rs ++ r ∷ []) ≡ ended + 1 = omega (arith, a, b) in e) (k.more refl).1 in omega (arith, a));
        spared = spared_more plan.tries thread rs (r ∷ []) placed (let n = (k.more refl).0 in omega (arith, n))
            (λ e. (let a = aborted_append (thread, suc (ended_of thread rs)) rs (r ∷ []) in let b = ended_one (thread, suc (ended_of thread rs)) r is in let t = tried in omega (arith, a, b, t, again))) h.spared;
        draws = (let a = h.draws in let b = here.tried.draws in
            let c = fewer_transactions plan.tries left (count_in plan.file.threads thread) ended next in omega (arith, a, b, c, again));
        alone = λ one place. (let a = aborted_append place rs (r ∷ []) in let b = ended_one place r is in let c = h.alone one place in omega (arith, a, b, c));
      }
