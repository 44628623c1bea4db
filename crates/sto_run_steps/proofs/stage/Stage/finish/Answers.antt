use Rattle.std.proofs.Common.{rules, ◌≡◌, zero, suc, length, ◌∙◌, refl, false}
use Rattle.sto_run_steps.specs.Logged.{kept}
use Rattle.sto_run_steps.proofs.Turns.{rounds_more}
use Rattle.sto_run_steps.proofs.stage.Stage.finish.Goals as goal

pub loop-moved-init : goal.loop-moved-init
loop-moved-init g c = record { turns = (zero, record { turns = (refl, refl, refl); seated = c.requires.seated; many = refl }) }

pub returns-then-not-moved-clause-over : goal.returns-then-not-moved-clause-over
returns-then-not-moved-clause-over g c =
    let off : c.in_ok-moved.moved ≡ false = search rules in
    c.in_ok-moved.ensures.over off

pub loop-moved-preserved : goal.loop-moved-preserved
loop-moved-preserved g c =
    let was = c.loop-moved.invariant.turns in let now = c.in_ok-moved.ensures.turns in
    let first = c.args.self.now.seats.items in let stage = c.loop-moved.self in let next = c.round.new.self in
    record {
      turns = (
        suc was.0,
        record {
          turns = rounds_more g.T.Naming.valid (g.W.Attempts.heard c.args.work.now) (length first) (length stage.seats.items) was.0 c.args.self.now.pass.cells.plain stage.pass.cells.plain next.pass.cells.plain first stage.seats.items next.seats.items (kept c.args.self.now.log) (kept stage.log) (kept next.log) was.1.many was.1.turns now.turns;
          seated = now.seated;
          many = now.many ∙ was.1.many;
        },
      );
    }

pub returns-then-not-moved-clause-turns : goal.returns-then-not-moved-clause-turns
returns-then-not-moved-clause-turns g c =
    let was = c.loop-moved.invariant.turns in let now = c.in_ok-moved.ensures.turns in
    let first = c.args.self.now.seats.items in let stage = c.loop-moved.self in let next = c.round.new.self in (
      suc was.0,
      record {
        turns = rounds_more g.T.Naming.valid (g.W.Attempts.heard c.args.work.now) (length first) (length stage.seats.items) was.0 c.args.self.now.pass.cells.plain stage.pass.cells.plain next.pass.cells.plain first stage.seats.items next.seats.items (kept c.args.self.now.log) (kept stage.log) (kept next.log) was.1.many was.1.turns now.turns;
        seated = now.seated;
        many = now.many ∙ was.1.many;
      },
    )
