-- What stands in one of two lists stands in the two, one after the other.
use Rattle.std.proofs.Common.{◌≡◌, ℕ, zero, suc, List, [], ◌∷◌, ◌++◌, sym}
use mathlib.Core.Option.{some, some-ne-none}
use Rattle.sto_core.specs.Lists.{Among}

pub among_first : {A : Type 0} (xs ys : List A) (x : A) → Among x xs → Among x (xs ++ ys)
among_first [] ys x h = absurd (some-ne-none x (sym h.1))
among_first (y ∷ xs) ys x (zero, e) = (0, e)
among_first (y ∷ xs) ys x (suc j, e) = let k = among_first xs ys x (j, e) in (suc k.0, k.1)

pub among_second : {A : Type 0} (xs ys : List A) (x : A) → Among x ys → Among x (xs ++ ys)
among_second [] ys x h = h
among_second (y ∷ xs) ys x h = let k = among_second xs ys x h in (suc k.0, k.1)
