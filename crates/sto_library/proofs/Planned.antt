-- Objects that were declared one after the other.
use Rattle.std.proofs.Common.{◌≡◌, ℕ, List, [], ◌∷◌, ◌++◌, length, ap, ◌∙◌}
use Rattle.sto_model.specs.declared.shape.Shape.{Shape}

-- after these objects one more was declared
pub planned : {old new shapes : List Shape} {number : ℕ} (shape : Shape) → old ≡ shapes → (number ≡ length old) × (new ≡ old ++ shape ∷ []) → (number ≡ length shapes) × (new ≡ shapes ++ shape ∷ [])
planned shape same (e, f) = (e ∙ ap length same, f ∙ ap (λ (l : List Shape). l ++ shape ∷ []) same)
