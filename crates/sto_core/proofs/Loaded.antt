-- The definitions computed on two runs with parts that a commit loads: an addition under the hold, beside another
-- pass, and a test of a part that is not held.
use Rattle.std.proofs.Common.{◌≡◌, ◌<◌, ◌||◌, ℕ, zero, suc, pos, negsuc, [], ◌∷◌, refl, true, false, inl, inr, subst, sym, arith, eqb}
use Rattle.std.specs.Int.{int_wrap}
use mathlib.Core.Option.{some-injective, some-ne-none}
use Rattle.sto_part.specs.declared.change.Change.TheVariants.{Put as PutValue, Add as AddValue}
use Rattle.sto_core.specs.History.{Validity}
use Rattle.sto_core.specs.Lists.{Each}
use Rattle.sto_core.specs.Views.{own_entry}
use Rattle.sto_core.specs.Event.{Start, Open, Word, Close, Lock, Test, Draw, Check, Decide, Put, Release}
use Rattle.sto_core.specs.Allowed.{Allowed, IsConfirmed}
use Rattle.sto_core.specs.Core.{Core}
use Rattle.sto_core.specs.Opened.{opened_core}
use Rattle.sto_core.proofs.Examples.{view_at, by_seat}

-- all contents are valid
abbrev pub always : Validity
always sizes contents = Unit {0}

-- a counter with 2
abbrev pub opened : Core
opened = opened_core [] ((pos 2 ∷ []) ∷ []) 2

-- seat 0 reads; seat 1 adds 1 with ticket 1
abbrev pub added : Core
added =
    by_seat 1 (Start ∷ Lock 0 ∷ Word 0 0 ∷ Draw ((0, AddValue (pos 1) ∷ []) ∷ []) [] (0 ∷ []) ∷ Decide true ∷ Put 0 0 (pos 3) ∷ Release 0 ∷ [])
    (by_seat 0 (Start ∷ Open 0 ∷ Word 0 0 ∷ Close 0 ∷ []) opened)

-- seat 0 locks and loads the part: it finds 3
abbrev pub loaded : Core
loaded = by_seat 0 (Lock 0 ∷ Word 0 0 ∷ []) added

one_read : (i : ℕ) → i < 1 → (eqb 0 i || false) ≡ true
one_read zero lt = refl
one_read (suc i) lt = absurd (omega arith)

-- it draws ticket 2 for an addition of -2, which rests on the part as loaded
abbrev pub drew : Core
drew = by_seat 0 (Draw ((0, AddValue (negsuc 1) ∷ []) ∷ []) [] (0 ∷ []) ∷ []) loaded

confirmed : Each (IsConfirmed (view_at drew 0)) (own_entry (view_at drew 0)).looked
confirmed zero looked is =
    subst (IsConfirmed (view_at drew 0)) (some-injective _ looked is) (inr (refl, (refl, one_read, refl)))
confirmed (suc j) looked is = absurd (some-ne-none looked (sym is))

may_commit : Allowed always (Decide true) (view_at drew 0)
may_commit = ((2, refl), confirmed)

abbrev pub decided : Core
decided = by_seat 0 (Decide true ∷ []) drew

-- the value under the hold minus 2 may be put, and the value read first minus 2 may not
may_put : Allowed always (Put 0 0 (pos 1)) (view_at decided 0)
unfolding int_wrap
may_put = (refl, (omega arith, omega arith), (refl, refl))

stale : Allowed always (Put 0 0 (pos 0)) (view_at decided 0) → ⊥
unfolding int_wrap
stale may = let e : pos 0 ≡ pos 1 = may.2.1 in cc

abbrev done : Core
done = by_seat 0 (Put 0 0 (pos 1) ∷ Release 0 ∷ []) decided

-- part 0 is tested and not held, and part 1 is written
abbrev two : Core
two = opened_core [] ((pos 5 ∷ []) ∷ (pos 0 ∷ []) ∷ []) 1

abbrev tested : Core
tested =
    by_seat 0 (Start ∷ Open 0 ∷ Word 0 0 ∷ Close 0 ∷ Lock 1 ∷ Test 0 ∷ Word 0 0 ∷ Close 0 ∷ []) two

abbrev drawn : Core
drawn = by_seat 0 (Draw ((1, PutValue (pos 1) ∷ []) ∷ []) [] (0 ∷ []) ∷ []) tested

-- without a check after the draw it may not commit
unchecked : Allowed always (Decide true) (view_at drawn 0) → ⊥
unchecked may = by (may.1 0 (record { part = 0; ticket = 0; words = pos 5 ∷ [] }) refl)
  where
    by : IsConfirmed (view_at drawn 0) (record { part = 0; ticket = 0; words = pos 5 ∷ [] }) → ⊥
    by (inl there) = some-ne-none (0, 0) (sym there.1)
    by (inr held) = let e : false ≡ true = held.0 in cc

abbrev checked : Core
checked = by_seat 0 (Check 0 ∷ []) drawn
