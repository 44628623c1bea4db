-- What stands behind the clock and the status words.
use Rattle.std.proofs.Common.{◌≡◌, ◌+◌, ℕ, suc, List, ◌∷◌, ◌++◌, length, set, get_or, ap}
use Rattle.std.proofs.lemmas.List.{get_or-append-add}
use Rattle.sto_table.proofs.Flat.{set_add}

pub get_flat : (clock : ℕ) (statuses rest : List ℕ) (k : ℕ)
    → get_or (clock ∷ (statuses ++ rest)) (suc (length statuses + k)) 0 ≡ get_or rest k 0
get_flat clock statuses rest k = get_or-append-add statuses rest k 0

pub set_flat : (clock : ℕ) (statuses rest : List ℕ) (k n : ℕ)
    → set (clock ∷ (statuses ++ rest)) (suc (length statuses + k)) n ≡ clock ∷ (statuses ++ set rest k n)
set_flat clock statuses rest k n = ap (λ (l : List ℕ). clock ∷ l) (set_add statuses rest k n)
