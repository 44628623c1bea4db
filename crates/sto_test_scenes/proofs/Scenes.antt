-- What a scene asks that no search finds: a word was read, and the looked part is confirmed.
use Rattle.std.proofs.Common.{◌≡◌, ◌<◌, ◌||◌, ℕ, zero, suc, pos, eqb, true, false, inl, inr, subst, sym, refl, arith}
use Rattle.std.specs.Int.{int_wrap}
use mathlib.Core.Option.{some-injective, some-ne-none}
use Rattle.sto_core.specs.Lists.{Each}
use Rattle.sto_core.specs.Views.{own_entry}
use Rattle.sto_core.specs.Event.{Decide, Put}
use Rattle.sto_core.specs.Allowed.{Allowed, IsConfirmed}
use Rattle.sto_plain.specs.Passes.{view_of, stepped}
use Rattle.sto_test_scenes.specs.Scenes.{always, other_drew, first_drew, drew_further}

pub one_read : (i : ℕ) → i < 1 → (eqb 0 i || false) ≡ true
one_read zero lt = refl
one_read (suc i) lt = absurd (omega arith)

confirmed : Each (IsConfirmed (view_of other_drew 1)) (own_entry (view_of other_drew 1)).looked
confirmed zero looked is =
    subst (IsConfirmed (view_of other_drew 1)) (some-injective _ looked is) (inl (0, refl))
confirmed (suc j) looked is = absurd (some-ne-none looked (sym is))

pub may_commit : Allowed always (Decide true) (view_of other_drew 1)
may_commit = ((1, refl), confirmed)

-- the part under the hold is as it was loaded there, and the tested part is checked
both_confirmed : Each (IsConfirmed (view_of first_drew 0)) (own_entry (view_of first_drew 0)).looked
both_confirmed zero looked is =
    subst (IsConfirmed (view_of first_drew 0)) (some-injective _ looked is) (inr (refl, (refl, one_read, refl)))
both_confirmed (suc zero) looked is =
    subst (IsConfirmed (view_of first_drew 0)) (some-injective _ looked is) (inl (0, refl))
both_confirmed (suc (suc j)) looked is = absurd (some-ne-none looked (sym is))

pub may_take : Allowed always (Decide true) (view_of first_drew 0)
may_take = ((2, refl), both_confirmed)

-- 5 less 2 may be put
pub may_put_rest : Allowed always (Put 0 0 (pos 3)) (view_of (stepped (Decide true) first_drew 0) 0)
unfolding int_wrap
may_put_rest = (refl, (omega arith, omega arith), (refl, refl))

-- an entry that rests on nothing may be committed
pub may_write : Allowed always (Decide true) (view_of drew_further 0)
may_write = ((3, refl), λ j looked is. absurd (some-ne-none looked (sym is)))
