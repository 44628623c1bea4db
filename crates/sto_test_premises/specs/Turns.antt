-- Events that passes make one after the other.
use Rattle.std.specs.Prelude.{ℕ, List, [], ◌∷◌, slice_index_or}
use Rattle.sto_core.specs.declared.view.View.{View}
use Rattle.sto_core.specs.Event.{Event}
use Rattle.sto_core.specs.Core.{Core, core_after}
use Rattle.sto_core.specs.Gathered.{spent_view}

-- the seat of a pass, and its event
abbrev pub Turn : Type 0
Turn = ℕ × Event

-- the view at a seat
abbrev pub view_at : Core → ℕ → View
view_at core seat = slice_index_or core.views seat spent_view

-- the core state after some turns
abbrev pub after_turns : List Turn → Core → Core
after_turns [] core = core
after_turns (t ∷ turns) core = after_turns turns (core_after t.1 core t.0 (view_at core t.0))
