use Rattle.std.specs.Prelude.{Some}
use Rattle.std.proofs.Common.{rules, ◌≡◌}
use Rattle.sto_run_steps.proofs.Logging.{logged, not_none}
use Rattle.sto_run_steps.proofs.seat.Seat.logged_step.Goals as goal

pub unreachable-requires : goal.unreachable-requires
unreachable-requires g c =
    not_none g.T.Naming.valid (g.C.Cells.passes c.args.pass.now.cells) (g.C.Cells.view c.args.pass.now.cells) (g.C.Cells.view c.step.new.cells.cells) c.step.new.cells.deed
    c.in_ok-step.ensures.event.tells.counts c.step.ensures.same.1 c.in_default-deed.is

pub returns-clause-logged : goal.returns-clause-logged
returns-clause-logged g c =
    let was : c.args.log.now ≡ Some c.in-Some.steps = search rules in
    logged g.T.Naming.valid (g.C.Cells.passes c.args.pass.now.cells) (g.W.Attempts.heard c.args.work.now) c.args.thread (g.C.Cells.view c.args.pass.now.cells) c.args.self.now
    (g.C.Cells.view c.step.new.cells.cells) c.step.new.self c.step.new.cells.deed c.in-Some-deed.deed c.heard-heard.result c.in_ok-step-2.step c.args.log.now c.in_ok-log.field-0 c.in-Some.steps
    c.in_ok-step.ensures.event.tells.counts c.step.ensures.same.1 c.in-Some-deed.is c.in_ok-step-2.ensures.deed c.heard-heard.ensures c.in_ok-step-2.ensures.last was c.in_ok-log.ensures
