-- Each way on is one of `proofs/Steps`, at what the step of the attempt or of the commit ensures.
use Rattle.std.proofs.Common.{◌<◌, Ok, Option, map, sym, ap, ◌∙◌, subst, arith}
use Rattle.sto_model.specs.PlainReplies.{plain_reply}
use Rattle.sto_attempt_log.specs.declared.verdict.Verdict.{Verdict}
use Rattle.sto_attempt.specs.declared.ready.Ready.{Ready}
use Rattle.sto_transaction.specs.declared.machine.Machine.{Machine}
use Rattle.sto_transaction.specs.declared.machine.Machine.TheVariants.{Committing}
use Rattle.sto_transaction.specs.Machines.{Proceeds, HasTurned, machine_left, calls_of}
use Rattle.sto_transaction.proofs.SomeLeft.{some_left}
use Rattle.sto_transaction.proofs.Steps.{turn_of, reads_on, commits_on}
use Rattle.sto_transaction.proofs.machine.Machine.turn.Goals as goal

pub returns-in-Running-clause-turned : goal.returns-in-Running-clause-turned
returns-in-Running-clause-turned g c ty f begun h =
    let v = g.C.Cells.view c.args.cells.now in
    let w = g.C.Cells.view c.step.new.cells in
    let passes = g.C.Cells.passes c.args.cells.now in
    let under = subst (λ (t : Machine g.row.T.Denot g.row.B.Denot). Proceeds g.T.TxType.meaning g.T.Naming.valid g.T.Naming.sizes g.B.Body.script g.B.Body.then g.B.Body.left g.B.Body.may_ask passes ty f t begun v) c.in-Running.is h in
    let k = c.step.ensures.steps in
    reads_on g.T.TxType.meaning g.T.Naming.valid g.T.Naming.sizes g.B.Body.script g.B.Body.then g.B.Body.left g.B.Body.may_ask passes ty f c.in-Running.attempt c.step.new.self begun v w c.step.result under.0 under.1 k.ty k.script k.event k.log k.turned k.alone k.moves k.err

pub returns-in-None-clause-turned : goal.returns-in-None-clause-turned
returns-in-None-clause-turned g c ty f begun h =
    let v = g.C.Cells.view c.args.cells.now in
    let w = g.C.Cells.view c.step-in-Committing.new.cells in
    let passes = g.C.Cells.passes c.args.cells.now in
    let s = c.step-in-Committing.new.self in
    let under = subst (λ (t : Machine g.row.T.Denot g.row.B.Denot). Proceeds g.T.TxType.meaning g.T.Naming.valid g.T.Naming.sizes g.B.Body.script g.B.Body.then g.B.Body.left g.B.Body.may_ask passes ty f t begun v) c.in-Committing.is h in
    let k = c.step-in-Committing.ensures.advances in
    subst (λ (x : Option Verdict). HasTurned g.T.TxType.meaning g.T.Naming.valid g.T.Naming.sizes g.B.Body.script g.B.Body.then g.B.Body.left g.B.Body.may_ask passes ty f (Ok (turn_of x)) (Committing s) begun w) c.in-None.is
    (commits_on g.T.TxType.meaning g.T.Naming.valid g.T.Naming.sizes g.B.Body.script g.B.Body.then g.B.Body.left g.B.Body.may_ask passes ty f c.in-Committing.ready s begun v w c.step-in-Committing.result under.0 under.1 k.kept k.event k.said k.space k.alone k.by)

pub returns-in-Some-clause-turned : goal.returns-in-Some-clause-turned
returns-in-Some-clause-turned g c ty f begun h =
    let v = g.C.Cells.view c.args.cells.now in
    let w = g.C.Cells.view c.step-in-Committing.new.cells in
    let passes = g.C.Cells.passes c.args.cells.now in
    let s = c.step-in-Committing.new.self in
    let under = subst (λ (t : Machine g.row.T.Denot g.row.B.Denot). Proceeds g.T.TxType.meaning g.T.Naming.valid g.T.Naming.sizes g.B.Body.script g.B.Body.then g.B.Body.left g.B.Body.may_ask passes ty f t begun v) c.in-Committing.is h in
    let k = c.step-in-Committing.ensures.advances in
    subst (λ (x : Option Verdict). HasTurned g.T.TxType.meaning g.T.Naming.valid g.T.Naming.sizes g.B.Body.script g.B.Body.then g.B.Body.left g.B.Body.may_ask passes ty f (Ok (turn_of x)) (Committing s) begun w) c.in-Some.is
    (commits_on g.T.TxType.meaning g.T.Naming.valid g.T.Naming.sizes g.B.Body.script g.B.Body.then g.B.Body.left g.B.Body.may_ask passes ty f c.in-Committing.ready s begun v w c.step-in-Committing.result under.0 under.1 k.kept k.event k.said k.space k.alone k.by)

pub returns-in-Running-clause-some : goal.returns-in-Running-clause-some
returns-in-Running-clause-some g c =
    let r = c.requires in
    let v = g.C.Cells.view c.args.cells.now in
    let passes = g.C.Cells.passes c.args.cells.now in
    let a = c.in-Running.attempt in
    let under = subst (λ (t : Machine g.row.T.Denot g.row.B.Denot). Proceeds g.T.TxType.meaning g.T.Naming.valid g.T.Naming.sizes g.B.Body.script g.B.Body.then g.B.Body.left g.B.Body.may_ask passes r.0 r.1 t r.2 v) c.in-Running.is r.3 in
    subst (λ (t : Machine g.row.T.Denot g.row.B.Denot). 0 < machine_left g.T.TxType.meaning g.T.Naming.valid g.T.Naming.sizes g.B.Body.script g.B.Body.then g.B.Body.left g.B.Body.may_ask t) (sym c.in-Running.is)
    (some_left (g.T.TxType.meaning a.log.ty.now) (g.met.T.TxType.lawful a.log.ty.now) g.T.Naming.valid (g.T.Naming.sizes a.log.ty.now) (g.B.Body.script a.log.body) a.at (g.B.Body.left a.log.body) a.log.table.words.items a.log.table.extension a.log.table.base.items a.log.table.set.items a.log.table.set.updates (map plain_reply a.log.table.replies.items) v a.read_phase under.1.goes)

pub returns-in-None-clause-some : goal.returns-in-None-clause-some
returns-in-None-clause-some g c =
    let whole = ap (machine_left g.T.TxType.meaning g.T.Naming.valid g.T.Naming.sizes g.B.Body.script g.B.Body.then g.B.Body.left g.B.Body.may_ask) c.in-Committing.is in
    omega (arith, whole, c.step-in-Committing.ensures.advances.left)

pub returns-in-Some-clause-some : goal.returns-in-Some-clause-some
returns-in-Some-clause-some g c =
    let whole = ap (machine_left g.T.TxType.meaning g.T.Naming.valid g.T.Naming.sizes g.B.Body.script g.B.Body.then g.B.Body.left g.B.Body.may_ask) c.in-Committing.is in
    omega (arith, whole, c.step-in-Committing.ensures.advances.left)

pub returns-in-Running-clause-calls : goal.returns-in-Running-clause-calls
returns-in-Running-clause-calls g c = c.step.ensures.steps.left_at_reset ∙ sym (ap (calls_of g.B.Body.left_at_reset) c.in-Running.is)

pub returns-in-None-clause-calls : goal.returns-in-None-clause-calls
returns-in-None-clause-calls g c =
    ap (λ (r : Ready g.row.T.Denot g.row.B.Denot). g.B.Body.left_at_reset r.log.body) c.step-in-Committing.ensures.advances.kept
    ∙ sym (ap (calls_of g.B.Body.left_at_reset) c.in-Committing.is)

pub returns-in-Some-clause-calls : goal.returns-in-Some-clause-calls
returns-in-Some-clause-calls g c =
    ap (λ (r : Ready g.row.T.Denot g.row.B.Denot). g.B.Body.left_at_reset r.log.body) c.step-in-Committing.ensures.advances.kept
    ∙ sym (ap (calls_of g.B.Body.left_at_reset) c.in-Committing.is)
