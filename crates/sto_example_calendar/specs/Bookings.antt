-- What a booking does, and what it keeps.
use Rattle.std.specs.List.{All}
use Rattle.std.specs.Ordering.{int_eq}
use Rattle.std.specs.Prelude.{◌≡◌, ℤ, pos, ◌+ℤ◌, ◌-ℤ◌, ◌≤ℤ◌, List, [], ◌∷◌, ◌⊎◌, if◌then◌else◌}
use Rattle.sto_model.specs.declared.shape.Shape.{Shape}
use Rattle.sto_model.specs.declared.shape.Shape.TheVariants.{Tree}
use Rattle.sto_model.specs.Rows.{Row}
use Rattle.sto_model.specs.Run.{State}
use Rattle.sto_action.specs.declared.handles.TreeId.{TreeId}
use Rattle.sto_action.specs.Progs.{Prog, Gives, Cancels}
use Rattle.sto_action.specs.Steps.{tree_count, tree_put}
use Rattle.sto_example_calendar.specs.declared.NoBooking.{NoBooking}
use Rattle.sto_example_calendar.specs.declared.NoBooking.TheVariants.{Taken, Full}

-- it notes the guest at a day, where there is room, and gives the day
abbrev pub note : TreeId → ℤ → ℤ → Prog NoBooking ℤ
note room day guest = tree_put room day guest (λ put. if put then Gives day else Cancels Full)

-- it books three days from this one on, where no booking begins so near that it has one of them
abbrev pub book : TreeId → ℤ → ℤ → Prog NoBooking ℤ
book room day guest = tree_count room (day -ℤ pos 2) (day +ℤ pos 2) (λ many. if int_eq many (pos 0) then note room day guest else Cancels Taken)

-- the objects at the opening
abbrev pub objects : List Shape
objects = Tree 16 ∷ []

-- one of two bookings ends before the other one begins
abbrev pub AreApart : Row → Row → Type 0
AreApart r s = ((r.0 +ℤ pos 3) ≤ℤ s.0) ⊎ ((s.0 +ℤ pos 3) ≤ℤ r.0)

-- no two bookings overlap
abbrev pub NoneOverlap : List Row → Type 0
NoneOverlap [] = Unit {0}
NoneOverlap (r ∷ rows) = All (AreApart r) rows × NoneOverlap rows

-- the room has bookings of which no two overlap
pub record IsBooked (state : State) : Type 0 where
  pub rows : List Row
  pub are : state ≡ rows ∷ []
  pub apart : NoneOverlap rows
