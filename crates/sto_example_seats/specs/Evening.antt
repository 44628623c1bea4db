-- What the transactions of the box office do, and what they keep.
use Rattle.std.specs.List.{All}
use Rattle.std.specs.Ordering.{int_eq}
use Rattle.std.specs.Prelude.{◌≡◌, ℕ, ℤ, pos, ◌+ℤ◌, ◌*ℤ◌, ◌<ℤ◌, List, [], ◌∷◌, Bool, true, false, Option, Some, None, if◌then◌else◌}
use Rattle.sto_model.specs.declared.shape.Shape.{Shape}
use Rattle.sto_model.specs.declared.shape.Shape.TheVariants.{Counter, Array, Tree}
use Rattle.sto_model.specs.Rows.{Row}
use Rattle.sto_model.specs.Run.{State}
use Rattle.sto_action.specs.declared.handles.ArrayId.{ArrayId}
use Rattle.sto_action.specs.declared.handles.CounterId.{CounterId}
use Rattle.sto_action.specs.declared.handles.TreeId.{TreeId}
use Rattle.sto_action.specs.Progs.{Prog, Gives, Cancels}
use Rattle.sto_action.specs.Steps.{array_get, array_set, counter_add, counter_take, tree_put, tree_next, tree_get, tree_remove}
use Rattle.sto_library.specs.Contents.{counted}
use Rattle.sto_example_seats.specs.declared.NoDeal.{NoDeal}
use Rattle.sto_example_seats.specs.declared.NoDeal.TheVariants.{NoSuchSeat, NotYours, LineFull, TillStuck, Gone}

-- it gives this where a call was done, and is given up for this reason where it was not
abbrev pub done : NoDeal → Bool → Bool → Prog NoDeal Bool
done reason told was = if was then Gives told else Cancels reason

-- the price is in the till
abbrev pub pay : CounterId → ℤ → Prog NoDeal Bool
pay till price = counter_add till price (done TillStuck true)

-- a seat is sold to a guest: the guest has it, and the price is in the till
abbrev pub sell : CounterId → ArrayId → ℤ → ℤ → ℤ → Prog NoDeal Bool
sell till hall price seat guest = array_set hall seat guest (λ set. if set then pay till price else Cancels NoSuchSeat)

-- a guest waits, with a ticket of its own for each seat
abbrev pub wait : TreeId → ℤ → ℤ → Prog NoDeal Bool
wait line seat guest = tree_put line ((pos 100 *ℤ guest) +ℤ seat) guest (done LineFull false)

module _ (till : CounterId) (hall : ArrayId) (line : TreeId) (price seat guest : ℤ) where
  -- by who has the seat: where it is free it is sold, else the guest waits
  abbrev pub by_owner : Option ℤ → Prog NoDeal Bool
  by_owner (Some owner) = if int_eq owner (pos 0) then sell till hall price seat guest else wait line seat guest
  by_owner None = Cancels NoSuchSeat

  -- a guest asks for a seat; it tells whether it was sold
  abbrev pub reserve : Prog NoDeal Bool
  reserve = array_get hall seat by_owner

  -- the seat goes to whoever waits with this ticket, who pays for it what the other one gets back
  abbrev pub pass_on : ℤ → Option ℤ → Prog NoDeal Bool
  pass_on ticket (Some next) = tree_remove line ticket (λ removed. if removed then array_set hall seat next (done NoSuchSeat true) else Cancels Gone)
  pass_on ticket None = Cancels Gone

  -- by the first ticket: without one the seat is free, and its price is paid back
  abbrev pub by_line : Option ℤ → Prog NoDeal Bool
  by_line (Some ticket) = tree_get line ticket (pass_on ticket)
  by_line None = array_set hall seat (pos 0) (λ set. if set then counter_take till price (done TillStuck false) else Cancels NoSuchSeat)

  abbrev pub by_holder : Option ℤ → Prog NoDeal Bool
  by_holder (Some owner) = if int_eq owner guest then tree_next line (pos 0) by_line else Cancels NotYours
  by_holder None = Cancels NoSuchSeat

  -- a guest gives a seat back; it tells whether another one has it now
  abbrev pub give_back : Prog NoDeal Bool
  give_back = array_get hall seat by_holder

-- what a guest does about a seat: asks for it, or gives it back
abbrev pub deed : CounterId → ArrayId → TreeId → ℤ → ℤ → Bool × ℕ → Prog NoDeal Bool
deed till hall line price guest (true, seat) = reserve till hall line price (pos seat) guest
deed till hall line price guest (false, seat) = give_back till hall line price (pos seat) guest

-- the objects at the opening
abbrev pub objects : List Shape
objects = Counter (pos 0) ∷ Array 12 (pos 0) ∷ Array 12 (pos 0) ∷ Tree 32 ∷ Tree 32 ∷ []

-- the till, the halls and the lines
abbrev pub holding : ℤ → (first other first_line other_line : List Row) → State
holding money first other first_line other_line = ((pos 0, money) ∷ []) ∷ first ∷ other ∷ first_line ∷ other_line ∷ []

-- what is paid for a seat by whoever has it: the price, and nothing for one that is free
abbrev pub paid_by : ℤ → ℤ → ℤ
paid_by price owner = if int_eq owner (pos 0) then pos 0 else price

-- it is a guest; and guests alone wait in a line
abbrev pub IsGuest : ℤ → Type 0
IsGuest owner = pos 0 <ℤ owner

abbrev pub AllGuests : List Row → Type 0
AllGuests line = All (λ r. IsGuest r.1) line

-- what is in the till is what the seats cost that are sold
pub record IsPaid (state : State) : Type 0 where
  pub money : ℤ
  pub first : List Row
  pub other : List Row
  pub first_line : List Row
  pub other_line : List Row
  pub are : state ≡ holding money first other first_line other_line
  pub first_wait : AllGuests first_line
  pub other_wait : AllGuests other_line
  pub paid : money ≡ counted (paid_by (pos 90)) first +ℤ counted (paid_by (pos 25)) other
