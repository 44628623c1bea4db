-- Threads among others, and offers among others.
use Rattle.std.specs.List.{list_any}
use Rattle.std.proofs.Common.{◌≡◌, ◌≤◌, ℕ, zero, suc, List, [], ◌∷◌, ◌++◌, replicate, refl, sym, ap, ◌∙◌, subst, arith, Bool, true, false, not, ◌&&◌, inl, inr, append_assoc, append-nil, nat_eq}
use Rattle.std.specs.Prelude.{◌⊎◌}
use Rattle.std.proofs.lemmas.Bool.{eqb-true, eq-eqb, cases_Bool, cases_eq, or_cases, or_left, or_right, false≢true, cond-true, cond-false, not_from_true, not_from_false, and_from, both_ways}
use Rattle.std.proofs.lemmas.List.{map-append}
use Rattle.sto_explore.specs.Schedules.{Turn, without}
use Rattle.sto_explore.specs.Legs.{turns_of, turns_with, threads_of, schedule_of, IsAmong}
use Rattle.sto_explore.specs.Branches.{Offer, offers_to, offers_within, part_of, begins, path_of}
use Rattle.sto_explore.specs.declared.leg.Leg.{Leg}
use Rattle.sto_explore.proofs.Following.{same, threads_with}

pub any_left : {X : Type 0} (f : X → Bool) (xs ys : List X) → list_any f xs ≡ true → list_any f (xs ++ ys) ≡ true
any_left f [] ys h = absurd (false≢true h)
any_left f (x ∷ xs) ys h = elim (or_cases (f x) (list_any f xs) h) [
  | inl here ↦ or_left (f x) (list_any f (xs ++ ys)) here
  | inr there ↦ or_right (f x) (list_any f (xs ++ ys)) (any_left f xs ys there)
]

pub any_right : {X : Type 0} (f : X → Bool) (xs ys : List X) → list_any f ys ≡ true → list_any f (xs ++ ys) ≡ true
any_right f [] ys h = h
any_right f (x ∷ xs) ys h = or_right (f x) (list_any f (xs ++ ys)) (any_right f xs ys h)

-- a thread among others but one
pub without_in : (u t : ℕ) (xs : List ℕ) → IsAmong xs u → nat_eq u t ≡ false → IsAmong (without t xs) u
without_in u t [] h other = h
without_in u t (v ∷ vs) h other = by (nat_eq v t) refl (or_cases (nat_eq u v) (list_any (nat_eq u) vs) h) (λ there. without_in u t vs there other)
  where
    by : (b : Bool) → nat_eq v t ≡ b → (nat_eq u v ≡ true) ⊎ (list_any (nat_eq u) vs ≡ true) → (IsAmong vs u → IsAmong (without t vs) u) → IsAmong (without t (v ∷ vs)) u
    by true is (inl here) rec =
        absurd (both_ways (nat_eq u t) other (eq-eqb u t (eqb-true u v here ∙ eqb-true v t is)))
    by true is (inr there) rec =
        subst (λ (l : List ℕ). IsAmong l u) (sym (cond-false (not (nat_eq v t)) (v ∷ without t vs) (without t vs) (not_from_true (nat_eq v t) is))) (rec there)
    by false is (inl here) rec =
        subst (λ (l : List ℕ). IsAmong l u) (sym (cond-true (not (nat_eq v t)) (v ∷ without t vs) (without t vs) (not_from_false (nat_eq v t) is)))
        (or_left (nat_eq u v) (list_any (nat_eq u) (without t vs)) here)
    by false is (inr there) rec =
        subst (λ (l : List ℕ). IsAmong l u) (sym (cond-true (not (nat_eq v t)) (v ∷ without t vs) (without t vs) (not_from_false (nat_eq v t) is)))
        (or_right (nat_eq u v) (list_any (nat_eq u) (without t vs)) (rec there))

pub without_out : (u t : ℕ) (xs : List ℕ) → IsAmong (without t xs) u → IsAmong xs u × (nat_eq u t ≡ false)
without_out u t [] h = absurd (false≢true h)
without_out u t (v ∷ vs) h = by (nat_eq v t) refl (λ there. without_out u t vs there)
  where
    further : (IsAmong vs u × (nat_eq u t ≡ false)) → IsAmong (v ∷ vs) u × (nat_eq u t ≡ false)
    further k = (or_right (nat_eq u v) (list_any (nat_eq u) vs) k.0, k.1)

    here_is : nat_eq v t ≡ false → nat_eq u v ≡ true → nat_eq u t ≡ false
    here_is other here = subst (λ (n : ℕ). nat_eq n t ≡ false) (sym (eqb-true u v here)) other

    by : (b : Bool) → nat_eq v t ≡ b → (IsAmong (without t vs) u → IsAmong vs u × (nat_eq u t ≡ false)) → IsAmong (v ∷ vs) u × (nat_eq u t ≡ false)
    by true is rec =
        further (rec (subst (λ (l : List ℕ). IsAmong l u) (cond-false (not (nat_eq v t)) (v ∷ without t vs) (without t vs) (not_from_true (nat_eq v t) is)) h))
    by false is rec = elim (or_cases (nat_eq u v) (list_any (nat_eq u) (without t vs))
        (subst (λ (l : List ℕ). IsAmong l u) (cond-true (not (nat_eq v t)) (v ∷ without t vs) (without t vs) (not_from_false (nat_eq v t) is)) h)) [
          | inl here ↦ (or_left (nat_eq u v) (list_any (nat_eq u) vs) here, here_is is here)
          | inr there ↦ further (rec there)
        ]

-- one of these threads that is not the first
pub among_others : (u t : ℕ) (others : List ℕ) → IsAmong (t ∷ others) u → nat_eq u t ≡ false → IsAmong others u
among_others u t others h other = elim (or_cases (nat_eq u t) (list_any (nat_eq u) others) h) [
  | inl here ↦ absurd (both_ways (nat_eq u t) other here)
  | inr there ↦ there
]

-- where no thread comes twice, the others are others
pub others_are : (u t : ℕ) (others : List ℕ) → list_any (nat_eq t) others ≡ false → IsAmong others u → nat_eq u t ≡ false
others_are u t others apart h = elim (cases_Bool (nat_eq u t)) [
  | inl is ↦ absurd (both_ways (list_any (nat_eq t) others) apart (subst (λ (n : ℕ). list_any (nat_eq n) others ≡ true) (eqb-true u t is) h))
  | inr other ↦ other
]

-- how a schedule begins
pub begins_alike : (a b c : List ℕ) → begins (a ++ b) (a ++ c) ≡ begins b c
begins_alike [] b c = refl
begins_alike (x ∷ a) b c = ap (λ (t : Bool). t && begins (a ++ b) (a ++ c)) (same x) ∙ begins_alike a b c

-- the schedule of legs with one more
pub schedule_more : (legs : List Leg) (leg : Leg) → schedule_of (legs ++ leg ∷ []) ≡ schedule_of legs ++ replicate leg.turns leg.thread
schedule_more [] leg = ap threads_of (append-nil (turns_with leg.thread leg.over leg.turns)) ∙ threads_with leg.thread leg.over leg.turns
schedule_more (first ∷ legs) leg =
    let turns = turns_with first.thread first.over first.turns in
    map-append (λ (t : Turn). t.thread) turns (turns_of (legs ++ leg ∷ []))
    ∙ ap (λ (l : List ℕ). threads_of turns ++ l) (schedule_more legs leg)
    ∙ sym (append_assoc (threads_of turns) (schedule_of legs) (replicate leg.turns leg.thread))
    ∙ ap (λ (l : List ℕ). l ++ replicate leg.turns leg.thread) (sym (map-append (λ (t : Turn). t.thread) turns (turns_of legs)))

-- an offer to one of these threads
pub in_offers : (legs : List Leg) (left : ℕ) (others : List ℕ) (u : ℕ) (rest : List ℕ) → IsAmong others u
    → list_any (λ o. begins (path_of o) (schedule_of legs ++ u ∷ rest)) (offers_to legs left others) ≡ true
in_offers legs left [] u rest h = absurd (false≢true h)
in_offers legs left (v ∷ vs) u rest h = elim (or_cases (nat_eq u v) (list_any (nat_eq u) vs) h) [
  | inl here ↦ or_left _ _ (begins_alike (schedule_of legs) (v ∷ []) (u ∷ rest) ∙ and_from (nat_eq v u) true (eq-eqb v u (sym (eqb-true u v here))) refl)
  | inr there ↦ or_right _ _ (in_offers legs left vs u rest there)
]

pub in_within : (legs : List Leg) (left : ℕ) (others : List ℕ) (thread n e u : ℕ) (rest : List ℕ) → 1 ≤ e → e ≤ n → IsAmong others u
    → list_any (λ o. begins (path_of o) (schedule_of legs ++ (replicate e thread ++ u ∷ rest))) (offers_within legs left others thread n) ≡ true
in_within legs left others thread zero e u rest some most h = absurd (omega (arith, some, most))
in_within legs left others thread (suc n) e u rest some most h = elim (cases_eq e (suc n)) [
  | inl last ↦ any_right (λ (o : Offer). begins (path_of o) (schedule_of legs ++ (replicate e thread ++ u ∷ rest))) (offers_within legs left others thread n) (offers_to (legs ++ part_of thread (suc n) ∷ []) left others)
      (subst (λ (l : List ℕ). list_any (λ o. begins (path_of o) l) (offers_to (legs ++ part_of thread (suc n) ∷ []) left others) ≡ true)
      (ap (λ (l : List ℕ). l ++ u ∷ rest) (schedule_more legs (part_of thread (suc n))) ∙ append_assoc (schedule_of legs) (replicate (suc n) thread) (u ∷ rest)
      ∙ ap (λ (k : ℕ). schedule_of legs ++ (replicate k thread ++ u ∷ rest)) (sym last))
      (in_offers (legs ++ part_of thread (suc n) ∷ []) left others u rest h))
  | inr before ↦ any_left (λ (o : Offer). begins (path_of o) (schedule_of legs ++ (replicate e thread ++ u ∷ rest))) (offers_within legs left others thread n) (offers_to (legs ++ part_of thread (suc n) ∷ []) left others)
      (in_within legs left others thread n e u rest some (omega (arith, most, before)) h)
]
