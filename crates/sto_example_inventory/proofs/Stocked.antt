-- A sale never takes what is not there.
use Rattle.std.specs.Prelude.{unwrap_or}
use Rattle.std.proofs.Common.{◌≡◌, ℤ, pos, ◌-ℤ◌, refl, subst, arith}
use Rattle.std.proofs.lemmas.Int.{ints}
use Rattle.sto_part.specs.Changes.{wrapped_sum}
use Rattle.sto_model.specs.Rows.{value_at, with_row}
use Rattle.sto_action.specs.declared.handles.CounterId.{CounterId}
use Rattle.sto_action.specs.declared.handles.HashId.{HashId}
use Rattle.sto_action.specs.Progs.{Gives}
use Rattle.sto_library.specs.Keeping.{Keeps, IsKept, Any}
use Rattle.sto_library.proofs.Branches.{counter, hash, at_two, on_state, or_cancel}
use Rattle.sto_library.proofs.Calls.{counter_take_at, hash_get_at, hash_put_at}
use Rattle.sto_example_inventory.specs.declared.NoSale.TheVariants.{SoldOut, BookFull}
use Rattle.sto_example_inventory.specs.Stock.{note, noted, sale, count, objects, holding, IsStocked, IsCount}

pub sells : {stock : CounterId} {book : HashId} (customer pieces : ℤ) → (stock.number ≡ 0) × (book.number ≡ 1) → Keeps objects IsStocked Any (sale stock book customer pieces)
sells customer pieces e = at_two (λ i j. Keeps objects IsStocked Any (sale (counter i) (hash j) customer pieces)) e (λ st rises h.
    let Q = IsKept IsStocked (Any {A = ℤ}) in let left = h.left -ℤ pieces in
    let bought = wrapped_sum (unwrap_or (value_at h.lines customer) (pos 0)) pieces in
    on_state objects Q (sale (counter 0) (hash 1) customer pieces) h.are
    (counter_take_at objects Q (counter 0) pieces (or_cancel SoldOut (note (hash 1) customer pieces)) (holding h.left h.lines) (refl, refl) refl (λ there.
    hash_get_at objects Q (hash 1) customer (noted (hash 1) customer pieces) (holding left h.lines) (refl, refl)
    (hash_put_at objects Q (hash 1) customer bought (or_cancel BookFull (Gives bought)) (holding left h.lines) (refl, refl) refl
    (tt, record { left = left; lines = with_row h.lines customer bought; are = refl; some = omega (arith, ints, there) }) tt)) tt))

pub counts : {stock : CounterId} {book : HashId} (one other : ℤ) → (stock.number ≡ 0) × (book.number ≡ 1) → Keeps objects IsStocked IsCount (count stock book one other)
counts one other e = at_two (λ i j. Keeps objects IsStocked IsCount (count (counter i) (hash j) one other)) e (λ st rises h.
    on_state objects (IsKept IsStocked IsCount) (count (counter 0) (hash 1) one other) h.are (h.some, subst IsStocked h.are h))
