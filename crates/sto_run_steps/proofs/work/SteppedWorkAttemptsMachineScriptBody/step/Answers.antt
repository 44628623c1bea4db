use Rattle.std.specs.Prelude.{Option, Result, Ok}
use Rattle.std.proofs.Common.{◌<◌, ap, ◌∙◌, subst, arith}
use Rattle.sto_part.specs.declared.NoMemory.{NoMemory}
use Rattle.sto_script.specs.Meaning.{meaning_of}
use Rattle.sto_script.specs.Bodies.{then_of, script_of, left_of, MayAskOf}
use Rattle.sto_script.specs.declared.body.ScriptBody.{ScriptBody}
use Rattle.sto_transaction.specs.declared.machine.FinishedAttempt.{FinishedAttempt}
use Rattle.sto_transaction.specs.Machines.{HasStepped, left_after}
use Rattle.sto_type.specs.Traits.{of_type}
use Rattle.sto_run_steps.specs.Proceeding.{script_left}
use Rattle.sto_run_steps.proofs.work.SteppedWorkAttemptsMachineScriptBody.step.Goals as goal

pub returns-in-Some-clause-stepped : goal.returns-in-Some-clause-stepped
returns-in-Some-clause-stepped g c = λ begun k.
    let fewer = c.in_ok-step.ensures.left in
    let h = subst (λ (r : Result (Option (FinishedAttempt ScriptBody)) NoMemory). HasStepped g.T.TxType.meaning g.T.Naming.valid g.T.Naming.sizes script_of then_of left_of MayAskOf (g.C.Cells.passes c.args.cells.now) c.args.self.now.work.now.ty.now (meaning_of k.script) r c.step.new.self begun (g.C.Cells.view c.step.new.cells))
    (c.in_ok-step.was ∙ ap Ok c.in-Some.is) (c.step.ensures.stepped c.args.self.now.work.now.ty.now (meaning_of k.script) begun k.proceeds) in (
      record {
        script = k.script;
        there = k.there;
        tried = h.tried (c.args._thread, c.args._position);
        rests = h.rests;
        steps = omega (arith, k.pace, c.step.ensures.event.tells.counts, fewer);
        alone = h.alone;
      },
      omega (arith, fewer),
    )

pub returns-in-None-clause-stepped : goal.returns-in-None-clause-stepped
returns-in-None-clause-stepped g c = λ begun k.
    let fewer = subst (λ (x : Option (FinishedAttempt ScriptBody)). left_after g.T.TxType.meaning g.T.Naming.valid g.T.Naming.sizes script_of then_of left_of MayAskOf x c.step.new.self < script_left (of_type g.T.Naming g.T.TxType) c.args.trial.now)
    c.in-None.is c.in_ok-step.ensures.left in
    let h = subst (λ (r : Result (Option (FinishedAttempt ScriptBody)) NoMemory). HasStepped g.T.TxType.meaning g.T.Naming.valid g.T.Naming.sizes script_of then_of left_of MayAskOf (g.C.Cells.passes c.args.cells.now) c.args.self.now.work.now.ty.now (meaning_of k.script) r c.step.new.self begun (g.C.Cells.view c.step.new.cells))
    (c.in_ok-step.was ∙ ap Ok c.in-None.is) (c.step.ensures.stepped c.args.self.now.work.now.ty.now (meaning_of k.script) begun k.proceeds) in
    (record { script = k.script; there = k.there; proceeds = h; pace = omega (arith, k.pace, c.step.ensures.event.tells.counts, fewer) }, fewer)
