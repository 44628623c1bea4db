-- What is wrong with bytes that were read is wrong with all that was left.
use Rattle.std.proofs.Common.{◌≡◌, ℕ, ◌<◌, List, [], ◌++◌, length, sym, subst, Option, None, Some}
use Rattle.sto_console.specs.Told.{Takes, AtEnd}
use Rattle.sto_console.specs.Read.{IfTold}

-- it is so of the bytes that were taken, which are fewer than `most` only at the end, and so of these with what may follow
pub if_told : (P : List ℕ → Type 0) (most : ℕ) (left rest : Option (List ℕ)) (taken : List ℕ) → Takes left rest taken → (length taken < most → AtEnd rest)
    → ((more : List ℕ) → (length taken < most → more ≡ []) → P taken → P (taken ++ more)) → P taken → IfTold left rest P
if_told P most None rest taken t end longer h = (taken, h)
if_told P most (Some bytes) None taken t end longer h = (taken, h)
if_told P most (Some bytes) (Some rest) taken t end longer h = subst P (sym t) (longer rest end h)
