-- Turns that are allowed keep the rule.
use Rattle.std.proofs.Common.{◌≡◌, ℕ, ◌<◌, List, [], ◌∷◌}
use mathlib.Core.Option.{some}
use lib.ListN.{get_elem?}
use Rattle.sto_core.specs.History.{Contents, Validity}
use Rattle.sto_core.specs.Allowed.{Allowed}
use Rattle.sto_core.specs.Core.{Core, core_after}
use Rattle.sto_core.specs.Rule.{Holds}
use Rattle.sto_core.proofs.Whole.{event_tells}
use Rattle.sto_test_premises.specs.Turns.{Turn, view_at, after_turns}

-- the pass of a turn may make its event
pub record MayTurn (valid : Validity) (core : Core) (t : Turn) : Type 0 where
  pub there : get_elem? core.views t.0 ≡ some (view_at core t.0)
  pub live : 0 < (view_at core t.0).gathered
  pub allowed : Allowed valid t.1 (view_at core t.0)

-- and so may those of some turns, one after the other
abbrev pub AreTurns : Validity → Core → List Turn → Type 0
AreTurns valid core [] = Unit {0}
AreTurns valid core (t ∷ turns) = MayTurn valid core t × AreTurns valid (core_after t.1 core t.0 (view_at core t.0)) turns

pub turns_keep : (valid : Validity) (sizes : List ℕ) (opening : Contents) (turns : List Turn) (core : Core) → AreTurns valid core turns
    → Holds valid sizes opening core → Holds valid sizes opening (after_turns turns core)
turns_keep valid sizes opening [] core may holds = holds
turns_keep valid sizes opening (t ∷ turns) core may holds =
    turns_keep valid sizes opening turns (core_after t.1 core t.0 (view_at core t.0)) may.1
    (event_tells valid sizes opening core t.0 (view_at core t.0) may.0.there may.0.live t.1 may.0.allowed holds).0

pub may : {valid : Validity} {core : Core} {t : Turn} → get_elem? core.views t.0 ≡ some (view_at core t.0) → 0 < (view_at core t.0).gathered
    → Allowed valid t.1 (view_at core t.0) → MayTurn valid core t
may there live allowed = record { there = there; live = live; allowed = allowed }
