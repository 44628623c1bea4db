-- What a call says.
use Rattle.std.proofs.Common.{◌≡◌, ◌∷◌, [], ℕ, List, ap, ◌∙◌, true, false, not, Option, None, Some}
use Rattle.std.specs.Prelude.{◌&&◌, if◌then◌else◌, option_and_then}
use Rattle.sto_syntax.specs.declared.operation.OperationWord.{OperationWord}
use Rattle.sto_syntax.specs.Words.{is_name}
use Rattle.sto_syntax.specs.Operations.{kinds_with}
use Rattle.sto_syntax.specs.Forms.{Form, Operand, CallLine, all_of, operand_of, asked, call, is_empty}
use Rattle.sto_syntax.specs.Views.{few}

few_all : {X : Type 0} (all : Option (List X)) (xs : List X) → few all ≡ Some xs → all ≡ Some xs
few_all None xs e = absurd (cc)
few_all (Some []) xs e = e
few_all (Some (a ∷ [])) xs e = e
few_all (Some (a ∷ b ∷ [])) xs e = e
few_all (Some (a ∷ b ∷ c ∷ more)) xs e = absurd (cc)

call_is : (to : Option (List ℕ)) (object : List ℕ) (words : List (List ℕ)) (operation : OperationWord) (operands : List Operand) → few (all_of operand_of words) ≡ Some operands → call to object words operation ≡ asked to object operation operands
call_is to object words operation operands e = ap (option_and_then (asked to object operation)) (few_all (all_of operand_of words) operands e)

-- a name, and as many arguments as a form has
pub call_with : (to : Option (List ℕ)) (object : List ℕ) (words : List (List ℕ)) (operation : OperationWord) (operands : List Operand) → few (all_of operand_of words) ≡ Some operands → is_name object ≡ true → not (is_empty (kinds_with operation operands)) ≡ true → call to object words operation ≡ Some (CallLine to operation object operands)
call_with to object words operation operands e named formed =
    let so : Option Form = Some (CallLine to operation object operands) in
    call_is to object words operation operands e ∙ (λ i. if (named i) && (formed i) then so else None)

-- as many arguments as no form has
pub call_without : (to : Option (List ℕ)) (object : List ℕ) (words : List (List ℕ)) (operation : OperationWord) (operands : List Operand) → few (all_of operand_of words) ≡ Some operands → is_name object ≡ true → not (is_empty (kinds_with operation operands)) ≡ false → call to object words operation ≡ None
call_without to object words operation operands e named formed =
    let so : Option Form = Some (CallLine to operation object operands) in
    call_is to object words operation operands e ∙ (λ i. if (named i) && (formed i) then so else None)
