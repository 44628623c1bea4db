-- Contents that an append does not leave.
use Rattle.std.proofs.Common.{◌≡◌, ◌++◌, ◌∙◌, ℤ, pos, List, [], ◌∷◌, length, ap, sym, arith, length-append}
use Rattle.sto_part.specs.Listed.{Listed}

-- The contents as they were, where there was a part to append

pub nothing_left_out : (old more new : Listed (List ℤ)) (p : List ℤ) (ps : List (List ℤ))
    → more.items ≡ p ∷ ps → new.items ≡ old.items ++ more.items → new.items ≡ old.items → ⊥
nothing_left_out old more new p ps some appended same =
    let one = ap length some in
    let long = ap length (sym same ∙ appended) ∙ length-append old.items more.items in
    absurd (omega (arith, one, long))

-- A part of 2 in front of one of 1, to which it was appended

abbrev one : List (List ℤ)
one = (pos 1 ∷ []) ∷ []

abbrev two : List (List ℤ)
two = (pos 2 ∷ []) ∷ []

pub not_in_front : (new : Listed (List ℤ)) → new.items ≡ one ++ two → new.items ≡ two ++ one → ⊥
not_in_front new appended in_front = cc
