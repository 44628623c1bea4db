-- Each transaction of the bank keeps what the accounts hold together, and an audit gives it. A transfer that is not made lacks something.
use Rattle.std.specs.Prelude.{int_lt}
use Rattle.std.proofs.Common.{◌≡◌, ℤ, pos, ◌<ℤ◌, ◌≤ℤ◌, [], ◌∷◌, true, refl, subst, arith}
use Rattle.std.proofs.lemmas.Int.{ints}
use Rattle.sto_part.specs.Changes.{wrapped_sum, wrapped_difference}
use Rattle.sto_model.proofs.RowFacts.{below_of, not_below_of}
use Rattle.sto_action.specs.declared.handles.BoxId.{BoxId}
use Rattle.sto_action.specs.Snapshots.{snapshot}
use Rattle.std.specs.declared.convert.Infallible.{Infallible}
use Rattle.sto_library.specs.Keeping.{Keeps, Excuses, IsKept, Any}
use Rattle.sto_library.proofs.Branches.{box, at_two, at_three, on_state, unless_then, excused_on, excused_unless_then}
use Rattle.sto_library.proofs.Wrapping.{moved, difference_fits}
use Rattle.sto_example_bank.specs.declared.NoTransfer.TheVariants.{Lacks}
use Rattle.sto_example_bank.specs.Accounts.{transfer, accounts, holding, HoldAll, IsLack, IsAll}

pub first_moves : {a b : BoxId} (n : ℤ) → (a.number ≡ 0) × (b.number ≡ 1) → pos 0 ≤ℤ n → Keeps accounts HoldAll Any (transfer a b n)
first_moves n e some = at_two (λ i j. Keeps accounts HoldAll Any (transfer (box i) (box j) n)) e (λ st rises h.
    on_state accounts (IsKept HoldAll Any) (transfer (box 0) (box 1) n) h.are (unless_then accounts (IsKept HoldAll Any) (Lacks (wrapped_difference n h.x)) _ _ _ (int_lt h.x n) (λ enough.
    let m = moved h.x h.y n some (not_below_of h.x n enough) h.some_y (grind (arith, ints, h.sum, h.some_z)) in
    (tt, record { x = wrapped_difference h.x n; y = wrapped_sum h.y n; z = h.z; are = refl; some_x = m.some_x; some_y = m.some_y; some_z = h.some_z; sum = grind (arith, ints, m.sum, h.sum) }))))

pub second_moves : {b c : BoxId} (n : ℤ) → (b.number ≡ 1) × (c.number ≡ 2) → pos 0 ≤ℤ n → Keeps accounts HoldAll Any (transfer b c n)
second_moves n e some = at_two (λ i j. Keeps accounts HoldAll Any (transfer (box i) (box j) n)) e (λ st rises h.
    on_state accounts (IsKept HoldAll Any) (transfer (box 1) (box 2) n) h.are (unless_then accounts (IsKept HoldAll Any) (Lacks (wrapped_difference n h.y)) _ _ _ (int_lt h.y n) (λ enough.
    let m = moved h.y h.z n some (not_below_of h.y n enough) h.some_z (grind (arith, ints, h.sum, h.some_x)) in
    (tt, record { x = h.x; y = wrapped_difference h.y n; z = wrapped_sum h.z n; are = refl; some_x = h.some_x; some_y = m.some_x; some_z = m.some_y; sum = grind (arith, ints, m.sum, h.sum) }))))

-- an account with less than an amount lacks something
lacks : (n x : ℤ) → pos 0 ≤ℤ x → n ≤ℤ pos 9223372036854775807 → int_lt x n ≡ true → pos 0 <ℤ wrapped_difference n x
lacks n x some few less =
    let below = below_of x n less in
    let fits = difference_fits n x some (grind (arith, ints, below)) few in grind (arith, ints, below, fits)

pub first_lacks : {a b : BoxId} (n : ℤ) → (a.number ≡ 0) × (b.number ≡ 1) → n ≤ℤ pos 9223372036854775807 → Excuses accounts HoldAll IsLack (transfer a b n)
first_lacks n e few = at_two (λ i j. Excuses accounts HoldAll IsLack (transfer (box i) (box j) n)) e (λ st rises h.
    excused_on accounts IsLack (transfer (box 0) (box 1) n) h.are (excused_unless_then accounts IsLack (Lacks (wrapped_difference n h.x)) _ _ _ (int_lt h.x n) (lacks n h.x h.some_x few) (λ enough. tt)))

pub second_lacks : {b c : BoxId} (n : ℤ) → (b.number ≡ 1) × (c.number ≡ 2) → n ≤ℤ pos 9223372036854775807 → Excuses accounts HoldAll IsLack (transfer b c n)
second_lacks n e few = at_two (λ i j. Excuses accounts HoldAll IsLack (transfer (box i) (box j) n)) e (λ st rises h.
    excused_on accounts IsLack (transfer (box 1) (box 2) n) h.are (excused_unless_then accounts IsLack (Lacks (wrapped_difference n h.y)) _ _ _ (int_lt h.y n) (lacks n h.y h.some_y few) (λ enough. tt)))

-- an audit sees the sum
pub sees_all : {a b c : BoxId} → (a.number ≡ 0) × (b.number ≡ 1) × (c.number ≡ 2) → Keeps accounts HoldAll IsAll (snapshot {E = Infallible} (a ∷ b ∷ c ∷ []) [])
sees_all e = at_three (λ i j k. Keeps accounts HoldAll IsAll (snapshot {E = Infallible} (box i ∷ box j ∷ box k ∷ []) [])) e (λ st rises h.
    on_state accounts (IsKept HoldAll IsAll) (snapshot {E = Infallible} (box 0 ∷ box 1 ∷ box 2 ∷ []) []) h.are (grind (arith, ints, h.sum), subst HoldAll h.are h))

-- at the opening
pub opened : HoldAll (holding (pos 100) (pos 100) (pos 100))
opened = record { x = pos 100; y = pos 100; z = pos 100; are = refl; some_x = grind (arith, ints); some_y = grind (arith, ints); some_z = grind (arith, ints); sum = refl }
