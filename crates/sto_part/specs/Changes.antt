-- Changes of words: what they make of a word, and how they compose.
use Rattle.std.specs.Prelude.{◌≡◌, ℤ, ◌+ℤ◌, ◌-ℤ◌, List, [], ◌∷◌, refl}
use Rattle.std.specs.Int.{int_wrap, w64}
use Rattle.std.proofs.Common.{◌∙◌, ap, sym}
use Rattle.std.proofs.Math.IntN.{+ℤ_assoc}
use Rattle.std.proofs.lemmas.Int.{int_wrap-add_left, int_wrap-add_right}
use Rattle.sto_part.specs.declared.change.Change.{Change}
use Rattle.sto_part.specs.declared.change.Change.TheVariants.{Keep, Put, Add}

-- the sum modulo 2^64, read as signed
abbrev pub wrapped_sum : ℤ → ℤ → ℤ
wrapped_sum x y = int_wrap w64 (x +ℤ y)

-- the difference modulo 2^64, read as signed
abbrev pub wrapped_difference : ℤ → ℤ → ℤ
wrapped_difference x y = int_wrap w64 (x -ℤ y)

-- what a change makes of a word
abbrev pub applied : Change → ℤ → ℤ
applied Keep x = x
applied (Put y) x = y
applied (Add d) x = wrapped_sum x d

-- the one change that does what both do, one after the other
abbrev pub composed : Change → Change → Change
composed first Keep = first
composed first (Put y) = Put y
composed Keep (Add d) = Add d
composed (Put x) (Add d) = Put (wrapped_sum x d)
composed (Add x) (Add d) = Add (wrapped_sum x d)

-- composition is what it says, at each word
pub applied_composed : (f s : Change) (x : ℤ) → applied (composed f s) x ≡ applied s (applied f x)
applied_composed f Keep x = refl
applied_composed f (Put y) x = refl
applied_composed Keep (Add d) x = refl
applied_composed (Put y) (Add d) x = refl
applied_composed (Add a) (Add b) x =
    int_wrap-add_right w64 x (a +ℤ b) ∙ (ap (int_wrap w64) (sym (+ℤ_assoc x a b)) ∙ sym (int_wrap-add_left w64 (x +ℤ a) b))

-- the changes of an update, word by word
abbrev pub applied_all : List Change → List ℤ → List ℤ
applied_all [] xs = xs
applied_all (c ∷ cs) [] = []
applied_all (c ∷ cs) (x ∷ xs) = applied c x ∷ applied_all cs xs

-- two updates composed, word by word
abbrev pub composed_all : List Change → List Change → List Change
composed_all [] ss = []
composed_all (f ∷ fs) [] = f ∷ fs
composed_all (f ∷ fs) (s ∷ ss) = composed f s ∷ composed_all fs ss
