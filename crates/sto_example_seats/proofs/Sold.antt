-- What guests do about a show keeps what is in the till what the seats cost that are sold.
use Rattle.std.specs.Ordering.{int_eq}
use Rattle.std.specs.Prelude.{if◌then◌else◌, slice_set}
use Rattle.std.proofs.Common.{◌≡◌, ℕ, ℤ, pos, ◌+ℤ◌, ◌-ℤ◌, ◌*ℤ◌, ◌<ℤ◌, List, [], ◌∷◌, Bool, true, false, Option, Some, None, refl, ap, ◌∙◌, arith}
use Rattle.std.proofs.lemmas.Int.{ints}
use Rattle.sto_model.specs.Rows.{Row, IsRising, with_row, without, value_at, least_from}
use Rattle.sto_model.specs.Run.{State}
use Rattle.sto_model.specs.declared.shape.Shape.TheVariants.{Counter, Array, Tree}
use Rattle.sto_model.proofs.RowFacts.{same_of, not_equal_of}
use Rattle.sto_action.specs.Progs.{Gives}
use Rattle.sto_action.specs.Steps.{array_set, counter_take, tree_next}
use Rattle.sto_library.specs.Contents.{counted}
use Rattle.sto_library.specs.Keeping.{IsKept, Any}
use Rattle.sto_library.proofs.Branches.{counter, array, tree, either_way, where_so, or_cancel}
use Rattle.sto_library.proofs.Calls.{Ends, HoldsAt, array_get_at, array_set_at, counter_add_at, counter_take_at, tree_get_at, tree_next_at, tree_put_at, tree_remove_at}
use Rattle.sto_library.proofs.RowLaws.{all_with, all_without, all_at, counted_with}
use Rattle.sto_example_seats.specs.declared.NoDeal.TheVariants.{NoSuchSeat, NotYours, LineFull, TillStuck, Gone}
use Rattle.sto_example_seats.specs.Evening.{pay, sell, wait, by_owner, pass_on, by_line, by_holder, deed, objects, paid_by, IsGuest, AllGuests}

-- the till, the hall and the line of a show, in states by what is in the till, its seats and who waits
pub record IsShow (till hall line : ℕ) (state : ℤ → (seats waiting : List Row) → State) : Type 0 where
  pub till_at : (m : ℤ) (s w : List Row) → HoldsAt objects (state m s w) till (Counter (pos 0)) ((pos 0, m) ∷ [])
  pub hall_at : (m : ℤ) (s w : List Row) → HoldsAt objects (state m s w) hall (Array 12 (pos 0)) s
  pub line_at : (m : ℤ) (s w : List Row) → HoldsAt objects (state m s w) line (Tree 32) w
  pub till_set : (m n : ℤ) (s w : List Row) → slice_set (state m s w) till ((pos 0, n) ∷ []) ≡ state n s w
  pub hall_set : (m : ℤ) (s t w : List Row) → slice_set (state m s w) hall t ≡ state m t w
  pub line_set : (m : ℤ) (s w v : List Row) → slice_set (state m s w) line v ≡ state m s v

module _ {till hall line : ℕ} {state : ℤ → (seats waiting : List Row) → State} (show : IsShow till hall line state) (price guest : ℤ) (number : ℕ) (base money : ℤ) (seats waiting : List Row) (Inv : State → Type 0)
    (ok : (m : ℤ) (s w : List Row) → AllGuests w → m ≡ base +ℤ counted (paid_by price) s → Inv (state m s w))
    (some : pos 0 <ℤ guest) (rises : IsRising seats) (guests : AllGuests waiting) (paid : money ≡ base +ℤ counted (paid_by price) seats) where
  abbrev Q : Bool × State → Type 0
  Q r = IsKept Inv Any r

  abbrev here : State
  here = state money seats waiting

  abbrev seat : ℤ
  seat = pos number

  free : (owner : ℤ) → int_eq owner (pos 0) ≡ true → paid_by price owner ≡ pos 0
  free owner e = ap (λ (b : Bool). if b then pos 0 else price) e

  taken : (owner : ℤ) → pos 0 <ℤ owner → paid_by price owner ≡ price
  taken owner some = ap (λ (b : Bool). if b then pos 0 else price) (not_equal_of owner (pos 0) (λ e. grind (arith, ints, some, e)))

  -- a seat changes hands
  handed : (owner next : ℤ) → value_at seats seat ≡ Some owner → counted (paid_by price) (with_row seats seat next) +ℤ paid_by price owner ≡ counted (paid_by price) seats +ℤ paid_by price next
  handed owner next is = counted_with (paid_by price) seats seat next owner rises is

  asked : (o : Option ℤ) → value_at seats seat ≡ o → Ends objects Q (by_owner (counter till) (array hall) (tree line) price seat guest o) here
  asked None is = tt
  asked (Some owner) is =
      let sold = with_row seats seat guest in let ticket = (pos 100 *ℤ guest) +ℤ seat in let longer = with_row waiting ticket guest in
      let more = handed owner guest is in let now = taken guest some in
      either_way objects Q (sell (counter till) (array hall) price seat guest) (wait (tree line) seat guest) here (int_eq owner (pos 0)) (λ none.
      let was = free owner none in
      array_set_at objects Q (array hall) seat guest (or_cancel NoSuchSeat (pay (counter till) price)) here (show.hall_at money seats waiting) (show.hall_set money seats sold waiting) (λ there.
      counter_add_at objects Q (counter till) price (or_cancel TillStuck (Gives true)) (state money sold waiting) (show.till_at money sold waiting) (show.till_set money (money +ℤ price) sold waiting)
      (tt, ok (money +ℤ price) sold waiting guests (omega (arith, ints, paid, more, was, now))) tt) tt)
      (λ other. tree_put_at objects Q (tree line) ticket guest (or_cancel LineFull (Gives false)) here (show.line_at money seats waiting) (show.line_set money seats waiting longer)
      (tt, ok money seats longer (all_with (λ (r : Row). IsGuest r.1) waiting ticket guest guests some) paid) tt)

  passed : (owner ticket : ℤ) → value_at seats seat ≡ Some owner → owner ≡ guest → (o : Option ℤ) → value_at waiting ticket ≡ o
      → Ends objects Q (pass_on (counter till) (array hall) (tree line) price seat guest ticket o) here
  passed owner ticket is mine None waits = tt
  passed owner ticket is mine (Some next) waits =
      let given = with_row seats seat next in let shorter = without waiting ticket in let more = handed owner next is in
      let was = ap (paid_by price) mine ∙ taken guest some in let now = taken next (all_at IsGuest waiting ticket guests waits) in
      tree_remove_at objects Q (tree line) ticket (or_cancel Gone (array_set (array hall) seat next (or_cancel NoSuchSeat (Gives true)))) here (show.line_at money seats waiting) (show.line_set money seats waiting shorter) (λ there.
      array_set_at objects Q (array hall) seat next (or_cancel NoSuchSeat (Gives true)) (state money seats shorter) (show.hall_at money seats shorter) (show.hall_set money seats given shorter) (λ its.
      (tt, ok money given shorter (all_without (λ (r : Row). IsGuest r.1) waiting ticket guests) (omega (arith, ints, paid, more, was, now)))) tt) tt

  lined : (owner : ℤ) → value_at seats seat ≡ Some owner → owner ≡ guest → (o : Option ℤ) → Ends objects Q (by_line (counter till) (array hall) (tree line) price seat guest o) here
  lined owner is mine (Some ticket) =
      tree_get_at objects Q (tree line) ticket (pass_on (counter till) (array hall) (tree line) price seat guest ticket) here (show.line_at money seats waiting)
      (passed owner ticket is mine (value_at waiting ticket) refl)
  lined owner is mine None =
      let empty = with_row seats seat (pos 0) in let less = handed owner (pos 0) is in
      let was = ap (paid_by price) mine ∙ taken guest some in let now = free (pos 0) refl in
      array_set_at objects Q (array hall) seat (pos 0) (or_cancel NoSuchSeat (counter_take (counter till) price (or_cancel TillStuck (Gives false)))) here (show.hall_at money seats waiting) (show.hall_set money seats empty waiting) (λ there.
      counter_take_at objects Q (counter till) price (or_cancel TillStuck (Gives false)) (state money empty waiting) (show.till_at money empty waiting) (show.till_set money (money -ℤ price) empty waiting)
      (λ enough. (tt, ok (money -ℤ price) empty waiting guests (omega (arith, ints, paid, less, was, now)))) tt) tt

  held : (o : Option ℤ) → value_at seats seat ≡ o → Ends objects Q (by_holder (counter till) (array hall) (tree line) price seat guest o) here
  held None is = tt
  held (Some owner) is =
      where_so objects Q NotYours (tree_next (tree line) (pos 0) (by_line (counter till) (array hall) (tree line) price seat guest)) here (int_eq owner guest) (λ mine.
      tree_next_at objects Q (tree line) (pos 0) (by_line (counter till) (array hall) (tree line) price seat guest) here (show.line_at money seats waiting)
      (lined owner is (same_of owner guest mine) (least_from waiting (pos 0))))

  pub does : (asks : Bool) → Ends objects Q (deed (counter till) (array hall) (tree line) price guest (asks, number)) here
  does true = array_get_at objects Q (array hall) seat (by_owner (counter till) (array hall) (tree line) price seat guest) here (show.hall_at money seats waiting) (asked (value_at seats seat) refl)
  does false = array_get_at objects Q (array hall) seat (by_holder (counter till) (array hall) (tree line) price seat guest) here (show.hall_at money seats waiting) (held (value_at seats seat) refl)
