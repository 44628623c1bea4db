-- The first steps of a thread among others.
use Rattle.std.specs.Prelude.{◌⊎◌, nat_eq}
use Rattle.std.specs.List.{prefix_len}
use Rattle.std.proofs.Common.{◌≡◌, ℕ, ◌+◌, ◌≤◌, List, [], ◌∷◌, ◌++◌, length, drop, refl, sym, ap, ◌∙◌, arith, inl, inr, zero-add}
use Rattle.std.proofs.Math.Seq.{drop-append_seam}
use Rattle.std.proofs.lemmas.Bool.{cond-true, cond-false}
use Rattle.sto_trace.specs.declared.Step.{Step}
use Rattle.sto_run_schedules.specs.Parted.{front_of}
use Rattle.sto_run_schedules.proofs.Turned.{AreOf, AreOfOthers}

abbrev own : ℕ → List Step → ℕ
own thread steps = prefix_len (λ (step : Step). nat_eq step.thread thread) steps

own_first : (t : ℕ) (first rest : List Step) → AreOf t first → own t (first ++ rest) ≡ length first + own t rest
own_first t [] rest h = sym (zero-add (own t rest))
own_first t (x ∷ first) rest h =
    let e = cond-true (nat_eq x.thread t) (1 + own t (first ++ rest)) 0 h.0 in
    let k = own_first t first rest h.1 in
    e ∙ omega (arith, k)

own_none : (t : ℕ) (rest : List Step) → AreOfOthers t rest → own t rest ≡ 0
own_none t [] h = refl
own_none t (x ∷ rest) h = cond-false (nat_eq x.thread t) (1 + own t rest) 0 h.0

-- so many steps of a thread, after which no more are to be counted or none is its own
pub front_is : (t n : ℕ) (first rest : List Step) → AreOf t first → length first ≤ n → (length first ≡ n) ⊎ AreOfOthers t rest → front_of t n (first ++ rest) ≡ length first
front_is t n first rest mine few (inl all) = let e = own_first t first rest mine in omega (arith, e, all)
front_is t n first rest mine few (inr others) = let e = own_first t first rest mine in let k = own_none t rest others in omega (arith, e, k, few)

-- and those past them
pub past_front : (t n : ℕ) (first rest : List Step) → AreOf t first → length first ≤ n → (length first ≡ n) ⊎ AreOfOthers t rest
    → drop (front_of t n (first ++ rest)) (first ++ rest) ≡ rest
past_front t n first rest mine few end = ap (λ (k : ℕ). drop k (first ++ rest)) (front_is t n first rest mine few end) ∙ drop-append_seam first rest
