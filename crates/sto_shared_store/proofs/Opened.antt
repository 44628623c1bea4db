-- Passes that were just opened are fresh, and fresh ones are at rest.
use Rattle.std.specs.List.{All}
use Rattle.std.proofs.Common.{◌≡◌, ◌∷◌, [], ℕ, ℤ, zero, suc, List, map, length, get_or, drop, refl, sym, ap, subst, arith}
use Rattle.std.proofs.lemmas.List.Elements.{All-nil, All-cons, All-head, All-tail}
use Rattle.atomic_table.specs.declared.shared.Seat.{Seat}
use Rattle.sto_type.specs.Meaning.{Meaning}
use Rattle.sto_core.specs.declared.view.View.{View}
use Rattle.sto_core.specs.Opened.{opened_view}
use Rattle.sto_table.specs.declared.stance.Stance.{Stance}
use Rattle.sto_table.specs.declared.shared.Shared.{Shared}
use Rattle.sto_table.specs.Rests.{IsOf}
use Rattle.sto_table.specs.Openings.{opened_down}
use Rattle.sto_transaction.specs.Resting.{IsAtRest}
use Rattle.sto_transaction.proofs.Resting.{opened_rests}
use Rattle.sto_shared_store.specs.Working.{IsWorker, IsFresh}

pub fresh_works : {T : Type 0} (m : Meaning) (sizes : List ℕ) (s : Shared T) (seat : Seat (Unit {0}) Stance) → IsFresh m sizes s seat → IsWorker m sizes s seat
fresh_works m sizes s seat h = record { of = h.of; rests = subst (IsAtRest m sizes) (sym h.view) (opened_rests m sizes m.opened h.number refl) }

pub all_fresh : {T X : Type 0} (m : Meaning) (sizes : List ℕ) (s : Shared T) (seat : X → Seat (Unit {0}) Stance) (rests : List X) (passes : ℕ)
    → map (λ (x : X). (seat x).me.0.view) rests ≡ opened_down sizes m.opened passes → All (λ (x : X). IsOf s (seat x)) rests
    → All (λ (x : X). IsFresh m sizes s (seat x)) rests
all_fresh {X} m sizes s seat [] passes is of = All-nil (λ (y : X). IsFresh m sizes s (seat y))
all_fresh {X} m sizes s seat (x ∷ xs) zero is of = absurd (let l = ap length is in omega (arith, l))
all_fresh {X} m sizes s seat (x ∷ xs) (suc n) is of =
    let P : X → Type 0 = λ y. IsOf s (seat y) in
    let Q : X → Type 0 = λ y. IsFresh m sizes s (seat y) in
    let first : Q x = record { of = All-head P x xs of; number = n; view = ap (λ (l : List View). get_or l 0 (opened_view sizes m.opened n)) is } in
    All-cons Q x xs first (all_fresh m sizes s seat xs n (ap (drop 1) is) (All-tail P x xs of))

pub many_opened : (sizes : List ℕ) (opened : List (List ℤ)) (n : ℕ) → length (opened_down sizes opened n) ≡ n
many_opened sizes opened zero = refl
many_opened sizes opened (suc n) = ap suc (many_opened sizes opened n)
