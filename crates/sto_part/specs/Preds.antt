-- When a predicate is true.
use Rattle.std.specs.Prelude.{ℤ, Bool, not, int_lt, int_le}
use Rattle.std.specs.Ordering.{int_eq}
use Rattle.sto_part.specs.Changes.{wrapped_sum}
use Rattle.sto_part.specs.declared.pred.Test.{Test}
use Rattle.sto_part.specs.declared.pred.Test.TheVariants.{Eq, Ne, Lt, Le, Gt, Ge}
use Rattle.sto_part.specs.declared.pred.Pred.{Pred}

-- whether x compares with y by the test
abbrev pub compares : Test → ℤ → ℤ → Bool
compares Eq x y = int_eq x y
compares Ne x y = not (int_eq x y)
compares Lt x y = int_lt x y
compares Le x y = int_le x y
compares Gt x y = int_lt y x
compares Ge x y = int_le y x

-- the test with the opposite answer
abbrev pub negated : Test → Test
negated Eq = Ne
negated Ne = Eq
negated Lt = Ge
negated Le = Gt
negated Gt = Le
negated Ge = Lt

-- whether the predicate is true of this value of its word
abbrev pub holds_of : Pred → ℤ → Bool
holds_of p x = compares p.test (wrapped_sum x p.shift) p.bound
