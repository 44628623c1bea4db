-- Puts and takes keep what was sent equal to what was received and what waits.
use Rattle.std.proofs.Common.{◌≡◌, ℤ, pos, ◌+ℤ◌, List, [], ◌∷◌, length, refl, arith}
use Rattle.std.proofs.lemmas.Int.{ints}
use Rattle.sto_model.specs.Run.{State}
use Rattle.sto_action.specs.declared.handles.CounterId.{CounterId}
use Rattle.sto_action.specs.declared.handles.VectorId.{VectorId}
use Rattle.sto_action.specs.Progs.{Gives}
use Rattle.sto_library.specs.Contents.{total}
use Rattle.sto_library.specs.Keeping.{Keeps, IsKept, Any}
use Rattle.sto_library.specs.Vectors.{placed}
use Rattle.sto_library.proofs.Branches.{counter, vector, at_two, on_state, or_cancel}
use Rattle.sto_library.proofs.Calls.{Ends, counter_add_at, vector_push_at, vector_pop_none_at, vector_pop_some_at}
use Rattle.sto_library.proofs.Totals.{total_last}
use Rattle.sto_example_queue.specs.declared.NoTurn.TheVariants.{Full, TooMuch}
use Rattle.sto_example_queue.specs.Line.{note, put, receive, take, objects, holding, IsServed}

abbrev Kept : ℤ × State → Type 0
Kept r = IsKept IsServed Any r

pub puts : {sent : CounterId} {line : VectorId} (amount : ℤ) → (sent.number ≡ 0) × (line.number ≡ 2) → Keeps objects IsServed Any (put sent line amount)
puts amount e = at_two (λ i j. Keeps objects IsServed Any (put (counter i) (vector j) amount)) e (λ st rises h.
    let last = total_last (placed h.waiting) (pos (length h.waiting), amount) in let all = h.all in
    on_state objects Kept (put (counter 0) (vector 2) amount) h.are
    (vector_push_at objects Kept (vector 2) amount (or_cancel Full (note (counter 0) amount)) (holding h.sent h.received h.waiting) h.waiting (refl, refl) refl
    (counter_add_at objects Kept (counter 0) amount (or_cancel TooMuch (Gives amount)) (holding h.sent h.received (amount ∷ h.waiting)) (refl, refl) refl
    (tt, record { sent = h.sent +ℤ amount; received = h.received; waiting = amount ∷ h.waiting; are = refl; all = omega (arith, ints, all, last) }) tt) tt))

-- of what waits, the last one is taken
takes_by : (sent received : ℤ) (waiting : List ℤ) → sent ≡ received +ℤ total (placed waiting) → Ends objects Kept (take (counter 1) (vector 2)) (holding sent received waiting)
takes_by sent received [] all = vector_pop_none_at objects Kept (vector 2) (receive (counter 1)) (holding sent received []) (refl, refl) tt
takes_by sent received (x ∷ xs) all =
    let last = total_last (placed xs) (pos (length xs), x) in
    vector_pop_some_at objects Kept (vector 2) (receive (counter 1)) (holding sent received (x ∷ xs)) x xs (refl, refl) refl
    (counter_add_at objects Kept (counter 1) x (or_cancel TooMuch (Gives x)) (holding sent received xs) (refl, refl) refl
    (tt, record { sent = sent; received = received +ℤ x; waiting = xs; are = refl; all = omega (arith, ints, all, last) }) tt)

pub takes : {received : CounterId} {line : VectorId} → (received.number ≡ 1) × (line.number ≡ 2) → Keeps objects IsServed Any (take received line)
takes e = at_two (λ i j. Keeps objects IsServed Any (take (counter i) (vector j))) e (λ st rises h.
    on_state objects Kept (take (counter 1) (vector 2)) h.are (takes_by h.sent h.received h.waiting h.all))
