-- The views of many passes, each of which has run one thread, are gathered into one.
use Rattle.std.specs.Prelude.{nat_eq}
use Rattle.std.specs.List.{flat_map}
use Rattle.std.proofs.Common.{◌≡◌, ℕ, zero, suc, ◌+◌, ◌*◌, ◌<◌, ◌≤◌, List, [], ◌∷◌, ◌++◌, length, refl, ap, subst, arith, inl, inr, ne_eqb}
use Rattle.std.proofs.lemmas.Bool.{cases_eq}
use mathlib.Core.Option.{some-injective}
use Rattle.sto_core.specs.declared.view.Entry.{Entry}
use Rattle.sto_core.specs.declared.view.Fate.TheVariants.{Pending}
use Rattle.sto_core.specs.declared.view.View.{View}
use Rattle.sto_core.specs.Allowed.{IsIdle}
use Rattle.sto_core.specs.History.{Contents}
use Rattle.sto_core.specs.Lists.{Each, weight}
use Rattle.sto_core.specs.Gathered.{gathered_into}
use Rattle.sto_core.specs.Reopened.{reopened_view}
use Rattle.sto_core.proofs.Lists.{each_append, each_nothing}
use Rattle.sto_table.specs.Taken.{times}
use Rattle.sto_run_threads.specs.Orders.{numbers_from}
use Rattle.sto_history.specs.Records.{Record, times_written}
use Rattle.sto_history.specs.Counted.{times_committed}
use Rattle.sto_history.specs.Added.{Grows}
use Rattle.sto_history.proofs.Progress.{committed_append}
use Rattle.sto_serializability.proofs.Working.{times_append, aborted_append}
use Rattle.sto_serializability.proofs.Gathering.{later_record}
use Rattle.sto_run_threads.specs.Running.{HasNone}
use Rattle.sto_run_threads.specs.Worked.{HasWorked, AreOf, AbortsNone}
use Rattle.sto_run_threads.proofs.Found.{all_found_later}
use Rattle.sto_run_threads.proofs.Joined.{once_self, nothing_of, none_worked, gathered_worked, gathered_of}
use Rattle.sto_run_threads.specs.Plans.{Plan, Rests, pace_of}

-- a pass at rest has made these records, all of the thread
pub record HasRested (plan : Plan) (passes need thread : ℕ) (v : View) (rs : List Record) : Type 0 where
  pub rests : Rests plan v
  pub worked : HasWorked plan v rs
  pub tickets : (t : ℕ) → times_written t rs ≡ times_committed t v.entries
  pub own : (u : ℕ) → (thread ≡ u → ⊥) → HasNone u rs
  pub draws : need ≤ v.draws
  pub alone : passes ≡ 1 → AbortsNone [] rs

-- each of these passes has; their threads are numbered from the first on
abbrev pub HaveRested : {X : Type 0} → (X → List Record) → Plan → (passes need first : ℕ) → List View → List X → Type 0
HaveRested R plan passes need first [] [] = Unit {0}
HaveRested R plan passes need first [] (x ∷ xs) = ⊥
HaveRested R plan passes need first (v ∷ vs) [] = ⊥
HaveRested R plan passes need first (v ∷ vs) (x ∷ xs) = HasRested plan passes need first v (R x) × HaveRested R plan passes need (suc first) vs xs

-- what the one view knows that has gathered them
pub record AreGathered (plan : Plan) (passes need first : ℕ) (w : View) (views : List View) (rs : List Record) : Type 0 where
  pub worked : HasWorked plan w rs
  pub tickets : (t : ℕ) → times_written t rs ≡ times_committed t w.entries
  pub own : AreOf (numbers_from first (length views)) rs
  pub settled : Each (λ (e : Entry). e.fate ≡ Pending → ⊥) w.entries
  pub draws : 1 ≤ length views → need ≤ w.draws
  pub alone : passes ≡ 1 → AbortsNone [] rs

-- a number is at most once among rising ones
none_from : (x first n : ℕ) → x < first → times x (numbers_from first n) ≡ 0
none_from x first zero l = refl
none_from x first (suc n) l =
    let e : weight (nat_eq x first) ≡ 0 = ap weight (ne_eqb x first (λ is. absurd (omega (arith, is, l)))) in
    let k = none_from x (suc first) n (omega (arith, l)) in omega (arith, e, k)

apart_from : (first n x : ℕ) → times x (first ∷ []) + times x (numbers_from (suc first) n) ≤ 1
apart_from first n x = elim (cases_eq x first) [
  | inl same ↦
      let a = none_from x (suc first) n (omega (arith, same)) in
      let b = subst (λ (k : ℕ). times x (k ∷ []) ≡ 1) same (once_self x) in omega (arith, a, b)
  | inr other ↦
      let e : weight (nat_eq x first) ≡ 0 = ap weight (ne_eqb x first other) in
      let k = most_from x (suc first) n in omega (arith, e, k)
]
  where
    most_from : (x first n : ℕ) → times x (numbers_from first n) ≤ 1
    most_from x first zero = omega arith
    most_from x first (suc n) = elim (cases_eq x first) [
      | inl same ↦
          let a = none_from x (suc first) n (omega (arith, same)) in
          let b = subst (λ (k : ℕ). times x (k ∷ []) ≡ 1) same (once_self x) in omega (arith, a, b)
      | inr other ↦
          let e : weight (nat_eq x first) ≡ 0 = ap weight (ne_eqb x first other) in
          let k = most_from x (suc first) n in omega (arith, e, k)
    ]

-- a view that knows what another knows
worked_later : (plan : Plan) (v w : View) (rs : List Record) → Grows v w → (w.steps ≡ v.steps) → (w.starts ≡ v.starts) → HasWorked plan v rs → HasWorked plan w rs
worked_later plan v w rs g steps starts h = record {
  so_far = record { threads = h.so_far.threads; few = h.so_far.few; handed = h.so_far.handed; each = later_record plan.meaning plan.file v w g rs h.so_far.each };
  found = all_found_later v w rs g h.found;
  under_way = h.under_way;
  paced = (let paced = h.paced in let all = ap (λ (n : ℕ). n * pace_of plan) starts in omega (arith, paced, steps, all));
}

-- one pass more
reopened_more : (sizes : List ℕ) (opening : Contents) (v : View) (vs : List View) → Grows (gathered_into v (reopened_view sizes opening vs)) (reopened_view sizes opening (v ∷ vs))
reopened_more sizes opening v vs = record {
  at = omega arith;
  entries = λ e h c. h;
  claims = λ c h. h;
  wrote = λ c h. h;
  findings = λ f h. h;
}

each_more : {A : Type 0} (P : A → Type 0) (x : A) (xs : List A) → P x → Each P xs → Each P (x ∷ xs)
each_more P x xs p h zero y at = subst P (some-injective x y at) p
each_more P x xs p h (suc j) y at = h j y at

of_one : (first : ℕ) (rs : List Record) → ((u : ℕ) → (first ≡ u → ⊥) → HasNone u rs) → AreOf (first ∷ []) rs
of_one first rs own u none = own u (λ same. absurd (let e = ap (λ (x : ℕ). times u (x ∷ [])) same in let o = once_self u in omega (arith, none, e, o)))

module _ {X : Type 0} (R : X → List Record) (plan : Plan) (passes need : ℕ) where
  pub gathered : (of_sizes : List ℕ) (opening : Contents) (first : ℕ) (views : List View) (xs : List X) → HaveRested R plan passes need first views xs
      → AreGathered plan passes need first (reopened_view of_sizes opening views) views (flat_map R xs)
  gathered of_sizes opening first [] [] h = record {
    worked = none_worked plan (reopened_view of_sizes opening []) [] refl (omega arith);
    tickets = λ t. refl;
    own = nothing_of [] refl;
    settled = each_nothing (λ (e : Entry). e.fate ≡ Pending → ⊥);
    draws = λ some. absurd (omega (arith, some));
    alone = λ one place. refl;
  }
  gathered of_sizes opening first [] (x ∷ xs) h = absurd h
  gathered of_sizes opening first (v ∷ vs) [] h = absurd h
  gathered of_sizes opening first (v ∷ vs) (x ∷ xs) h =
      let k = gathered of_sizes opening (suc first) vs xs h.1 in
      let own = of_one first (R x) h.0.own in record {
        worked = worked_later plan (gathered_into v (reopened_view of_sizes opening vs)) (reopened_view of_sizes opening (v ∷ vs)) (R x ++ flat_map R xs)
            (reopened_more of_sizes opening v vs) refl refl
            (gathered_worked plan v (reopened_view of_sizes opening vs) (first ∷ []) (numbers_from (suc first) (length vs)) (R x) (flat_map R xs)
            (apart_from first (length vs)) own k.own h.0.worked k.worked);
        tickets = λ t. (let a = times_append t (R x) (flat_map R xs) in let b = committed_append t v.entries (reopened_view of_sizes opening vs).entries in
            let c = h.0.tickets t in let d = k.tickets t in omega (arith, a, b, c, d));
        own = gathered_of (first ∷ []) (numbers_from (suc first) (length vs)) (R x) (flat_map R xs) own k.own;
        settled = each_append (λ (e : Entry). e.fate ≡ Pending → ⊥) v.entries (reopened_view of_sizes opening vs).entries h.0.rests.settled k.settled;
        draws = λ some. (let a = h.0.draws in omega (arith, a));
        alone = λ one place. (let a = aborted_append place (R x) (flat_map R xs) in let b = h.0.alone one place in let c = k.alone one place in omega (arith, a, b, c));
      }

  -- all are idle
  pub all_idle : (first : ℕ) (views : List View) (xs : List X) → HaveRested R plan passes need first views xs → Each (λ (v : View). IsIdle v.phase) views
  all_idle first [] [] h = each_nothing (λ (v : View). IsIdle v.phase)
  all_idle first [] (x ∷ xs) h = absurd h
  all_idle first (v ∷ vs) [] h = absurd h
  all_idle first (v ∷ vs) (x ∷ xs) h = each_more (λ (u : View). IsIdle u.phase) v vs h.0.rests.idle (all_idle (suc first) vs xs h.1)
