use Rattle.std.proofs.Common.{rules}
use Rattle.std.proofs.lemmas.Result.{IfOk-weaker}
use Rattle.sto_type.specs.Traits.{of_type}
use Rattle.sto_library.specs.Tasks.{HaveWorked}
use Rattle.sto_library.proofs.SideBySide.{both_worked}
use Rattle.sto_library.proofs.together.+halves.Goals as goal

pub returns : goal.returns
returns g t c =
    let type = of_type g.T.Naming g.T.TxType in let words = c.args.words.now in let shapes = c.args.shapes.now.items in
    let first : HaveWorked type words shapes g.K.Task.gives c.split_at.result.0.now c.split_off.new.self.items c.in_ok-first.first = search rules in
    let other : HaveWorked type words shapes g.K.Task.gives c.split_at.result.1.now c.in-Ok.others.items c.in_ok-other.other = search rules in
    IfOk-weaker c.gather.result _ _
    (λ both b. both_worked type words shapes g.K.Task.gives _ c.args.tasks.now _ _ c.args.workers.items _ _ _ _ both c.split_at.ensures.front c.split_at.ensures.back
    c.in-Ok.ensures.items c.in-Ok.ensures.tail first other b) c.gather.ensures
