use Rattle.std.specs.List.{flat_map}
use Rattle.std.proofs.Common.{List, refl, ◌∙◌, subst, arith}
use Rattle.std.proofs.lemmas.List.{take_all}
use Rattle.sto_lang.specs.declared.file.Turns.{Turns}
use Rattle.sto_run_steps.specs.Logged.{kept}
use Rattle.sto_run_steps.specs.Turning.{HaveTurns, entry_turns}
use Rattle.sto_run_steps.proofs.Turns.{schedule_more}
use Rattle.sto_run_steps.proofs.stage.Stage.follow.Goals as goal

pub loop-turns-preserved : goal.loop-turns-preserved
loop-turns-preserved g c =
    let was = c.loop-turns.invariant.turns in let now = c.in_ok-take_turns.ensures.turns in let next = c.in_ok-take_turns in
    record {
      turns = record {
        turns = schedule_more g.T.Naming.valid (g.W.Attempts.heard c.args.work.now) c.args.schedule.now c.loop-turns.turns-index (record { thread = 0; steps = 0 }) c.args.self.now.pass.cells.plain c.loop-turns.self.pass.cells.plain c.take_turns.new.self.pass.cells.plain c.args.self.now.seats.items c.loop-turns.self.seats.items c.take_turns.new.self.seats.items (kept c.args.self.now.log) (kept c.loop-turns.self.log) (kept c.take_turns.new.self.log)
            c.loop-turns-test.true was.turns now.turns;
        seated = now.seated;
        many = now.many ∙ was.many;
      };
    }

pub loop-turns-init : goal.loop-turns-init
loop-turns-init g c = record { turns = record { turns = (refl, refl, refl); seated = c.requires.seated; many = refl } }

pub returns : goal.returns
returns g c =
    let was = c.loop-turns.invariant.turns in record {
      turns = record {
        turns = subst (λ (l : List Turns). HaveTurns g.T.Naming.valid (g.W.Attempts.heard c.args.work.now) (flat_map entry_turns l) c.args.self.now.pass.cells.plain c.args.self.now.seats.items (kept c.args.self.now.log) c.loop-turns.self.pass.cells.plain c.loop-turns.self.seats.items (kept c.loop-turns.self.log))
            (take_all c.loop-turns.turns-index c.args.schedule.now (omega (arith, c.loop-turns-test.false))) was.turns;
        seated = was.seated;
        many = was.many;
      };
    }
