-- Lists of which the last is told, and texts that differ.
use Rattle.std.specs.Prelude.{slice_index_or}
use Rattle.std.proofs.Common.{◌≡◌, ℕ, suc, List, [], ◌∷◌, ◌++◌, length, Some, sym, ap, ◌∙◌, arith}

-- the byte at a place
abbrev pub byte : List ℕ → ℕ → ℕ
byte text place = slice_index_or text place 0

-- texts that differ at a place are two
pub differ : (xs ys : List ℕ) (place b c : ℕ) → byte xs place ≡ b → byte ys place ≡ c → (b ≡ c → ⊥) → xs ≡ ys → ⊥
differ xs ys place b c p q apart same = apart (sym p ∙ ap (λ text. byte text place) same ∙ q)

-- what stands behind others is nothing, where all is nothing
pub none_behind : {X : Type 0} (xs ys : List X) → [] ≡ xs ++ ys → [] ≡ ys
none_behind [] ys e = e
none_behind (x ∷ xs) ys e = let n : 0 ≡ suc (length (xs ++ ys)) = ap length e in absurd (omega (arith, n))

pub some_is : {X : Type 0} (x y : X) → Some x ≡ Some y → x ≡ y
some_is x y e = cc

pub one_is : {X : Type 0} (x y : X) → x ∷ [] ≡ y ∷ [] → x ≡ y
one_is x y e = cc

-- the last one of a list is one
pub last_same : {X : Type 0} (xs : List X) (x y : X) → xs ++ x ∷ [] ≡ xs ++ y ∷ [] → x ≡ y
last_same [] x y e = one_is x y e
last_same (z ∷ zs) x y e = let rest : zs ++ x ∷ [] ≡ zs ++ y ∷ [] = cc in last_same zs x y rest
