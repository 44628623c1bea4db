use Rattle.std.proofs.Common.{[], rules, FitsSigned}
use Rattle.std.specs.Int.{w64}
use Rattle.std.proofs.lemmas.Int.{to_z-of_z}
use Rattle.std.proofs.lemmas.Result.{IfOk-weaker}
use Rattle.sto_model.specs.Objects.{compared}
use Rattle.sto_model.specs.PlainReplies.{Flag}
use Rattle.sto_counter.specs.Counted.{test_items}
use Rattle.sto_counter.proofs.Saying.{said_unmoved}
use Rattle.sto_counter.proofs.counter.test_answer.Goals as goal

pub returns : goal.returns
returns c =
    let t = c.args.test in
    let k = c.args.bound in
    let x = c.args.value in
    let f : FitsSigned w64 c.args.value = search rules in
    let g : FitsSigned w64 c.args.bound = search rules in
    let done = simp to_z-of_z at c.tested.ensures in
    IfOk-weaker c.tested.result _ _ (λ a said. said_unmoved (Flag (compared t x k)) (test_items t k x) [] a said) done
