-- A pass over one part of one word, between two transactions.
use Rattle.std.specs.Prelude.{◌≡◌, ◌≤◌, ℕ, ℤ, pos, List, [], ◌∷◌, length}
use Rattle.sto_part.specs.declared.change.Change.TheVariants.{Add}
use Rattle.sto_core.specs.declared.view.View.{View}
use Rattle.sto_core.specs.Allowed.{IsIdle}
use Rattle.sto_table.specs.Rests.{IsOf}
use Rattle.sto_table.specs.declared.shared.Shared.{Shared}
use Rattle.sto_table.specs.declared.stance.Stance.{Stance}
use Rattle.atomic_table.specs.declared.shared.Seat.{Seat}
use Rattle.sto_core.specs.History.{Updates, Validity, Contents}

-- all contents are valid
abbrev pub always : Validity
always sizes contents = Unit {0}

-- the contents are one part of one word
abbrev pub IsCounter : Contents → Type 0
IsCounter c = (x : ℤ) × (c ≡ (x ∷ []) ∷ [])

-- the update that adds 1 to the word
abbrev pub one_more : Updates
one_more = (0, Add (pos 1) ∷ []) ∷ []

-- the pass is idle, holds nothing, and may draw so many tickets
pub record Rests (least : ℕ) (v : View) : Type 0 where
  pub idle : IsIdle v.phase
  pub held : v.held ≡ []
  pub counter : IsCounter v.opening
  pub draws : least ≤ v.draws

-- the pass is one of these words, and rests
abbrev pub Counts : {T : Type 0} → ℕ → Shared T → Seat (Unit {0}) Stance → Type 0
Counts least s seat =
    IsOf s seat × Rests least seat.me.0.view × (seat.me.0.view.gathered ≡ 1)
