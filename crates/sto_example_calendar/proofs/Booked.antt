-- Bookings keep the calendar free of overlaps.
use Rattle.std.specs.Ordering.{int_eq}
use Rattle.std.proofs.Common.{◌≡◌, ℕ, ℤ, pos, ◌+ℤ◌, ◌-ℤ◌, [], ◌∷◌, length, refl}
use Rattle.sto_model.specs.Rows.{with_row, rows_between}
use Rattle.sto_action.specs.declared.handles.TreeId.{TreeId}
use Rattle.sto_action.specs.Progs.{Gives}
use Rattle.sto_library.specs.Keeping.{Keeps, IsKept, Any}
use Rattle.sto_library.proofs.Branches.{tree, at_one, on_state, where_so, or_cancel}
use Rattle.sto_library.proofs.Calls.{tree_put_at}
use Rattle.sto_example_calendar.specs.declared.NoBooking.TheVariants.{Taken, Full}
use Rattle.sto_example_calendar.specs.Bookings.{note, book, objects, IsBooked}
use Rattle.sto_example_calendar.proofs.Apart.{booked}

pub books : {room : TreeId} (guest : ℤ) → room.number ≡ 0 → (day : ℕ) → Keeps objects IsBooked Any (book room (pos day) guest)
books guest e i = at_one (λ n. Keeps objects IsBooked Any (book (tree n) (pos i) guest)) e (λ st rises h.
    let Q = IsKept IsBooked (Any {A = ℤ}) in let day = pos i in
    on_state objects Q (book (tree 0) day guest) h.are
    (where_so objects Q Taken (note (tree 0) day guest) (h.rows ∷ []) (int_eq (pos (length (rows_between h.rows (day -ℤ pos 2) (day +ℤ pos 2)))) (pos 0)) (λ free.
    tree_put_at objects Q (tree 0) day guest (or_cancel Full (Gives day)) (h.rows ∷ []) (refl, refl) refl
    (tt, record { rows = with_row h.rows day guest; are = refl; apart = booked day guest h.rows free h.apart }) tt)))
