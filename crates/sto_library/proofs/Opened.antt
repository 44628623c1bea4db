-- A worker that was just opened has done nothing.
use Rattle.std.specs.List.{All}
use Rattle.std.proofs.Common.{◌≡◌, ℕ, List, [], ◌∷◌, map, ap}
use Rattle.std.proofs.lemmas.List.Elements.{All-nil, All-cons, All-head, All-tail}
use Rattle.atomic_table.specs.declared.shared.Seat.{Seat}
use Rattle.sto_type.specs.Meaning.{Meaning}
use Rattle.sto_core.specs.declared.view.View.{View}
use Rattle.sto_table.specs.declared.stance.Stance.{Stance}
use Rattle.sto_table.specs.declared.shared.Shared.{Shared}
use Rattle.sto_part.specs.declared.naming.Naming as naming
use Rattle.sto_shared_store.specs.declared.worker.CountedRest.{CountedRest}
use Rattle.sto_shared_store.specs.Working.{IsFresh}

pub all_new : {T X : Type 0} (m : Meaning) (sizes : List ℕ) (s : Shared T) (seat : X → Seat (Unit {0}) Stance) (ws : List X) → All (λ w. IsFresh m sizes s (seat w)) ws
    → All (λ (v : View). v.entries ≡ []) (map (λ w. (seat w).me.0.view) ws)
all_new m sizes s seat [] h = All-nil (λ (v : View). v.entries ≡ [])
all_new {T} {X} m sizes s seat (w ∷ ws) h =
    let P : X → Type 0 = λ x. IsFresh m sizes s (seat x) in
    let first = All-head P w ws h in
    All-cons (λ (v : View). v.entries ≡ []) (seat w).me.0.view (map (λ x. (seat x).me.0.view) ws) (ap (λ (v : View). v.entries) first.view) (all_new m sizes s seat ws (All-tail P w ws h))

pub all_fresh_new : {T : Type 0} {n : naming.Ghosts T} {m : Meaning} {sizes : List ℕ} {s : Shared T} (ws : List (CountedRest T n)) → All (λ w. IsFresh m sizes s w.rest.seat) ws
    → All (λ (v : View). v.entries ≡ []) (map (λ w. w.rest.seat.me.0.view) ws)
all_fresh_new {T} {n} {m} {sizes} {s} ws h = all_new m sizes s (λ (w : CountedRest T n). w.rest.seat) ws h
