use Rattle.std.proofs.Common.{ℕ, List, Option, Some, sym, ap, ◌∙◌}
use Rattle.sto_syntax.specs.Lines.{words_of}
use Rattle.sto_syntax.specs.Forms.{CallLine, call_line}
use Rattle.sto_syntax.specs.Views.{name_option, operand_list}
use Rattle.sto_syntax.proofs.Calls.{call_with, call_without}
use Rattle.sto_syntax.proofs.form.call_line.Goals as goal

pub returns : goal.returns
returns c =
    let to : Option (List ℕ) = name_option c.args.to in
    let object : List ℕ = c.in_ok-object.object.now in
    sym (ap (call_line c.args.version to c.args.word.now) c.in_ok-object.ensures.found
    ∙ c.in_ok-operation.ensures to object
    ∙ call_with to object (words_of c.in_ok-operation.rest.now) c.in_ok-operation.operation (operand_list c.in_ok-operands.operands) (sym c.in_ok-operands.ensures) c.in_ok-object-2.ensures.0 (sym c.if-not-has_form.ensures)
    ∙ ap (λ (name : List ℕ). Some (CallLine to c.in_ok-operation.operation name (operand_list c.in_ok-operands.operands))) (sym c.in_ok-object-2.ensures.1))

pub returns-then-not-has_form : goal.returns-then-not-has_form
returns-then-not-has_form c =
    let to : Option (List ℕ) = name_option c.args.to in
    let object : List ℕ = c.in_ok-object.object.now in
    sym (ap (call_line c.args.version to c.args.word.now) c.in_ok-object.ensures.found
    ∙ c.in_ok-operation.ensures to object
    ∙ call_without to object (words_of c.in_ok-operation.rest.now) c.in_ok-operation.operation (operand_list c.in_ok-operands.operands) (sym c.in_ok-operands.ensures) c.in_ok-object-2.ensures.0 (sym c.if-not-has_form.ensures))
