use Rattle.std.proofs.Common.{refl}
use Rattle.sto_run.proofs.Draws.{enough_draws}
use Rattle.sto_run.proofs.opened.OpenedRun.new.Goals as goal

pub returns-clause-runnable : goal.returns-clause-runnable
returns-clause-runnable g c = record {
  sound = c.requires.sound;
  type_of = c.requires.type_of;
  taken = c.requires.taken;
  tries = c.requires.tries;
  opens = record {
    sized = refl;
    opened = c.in_ok-opening.ensures.opened;
    lawful = c.in_ok-opening.ensures.valid;
    few = enough_draws (g.F.Workload.file c.args.file) c.args.tries c.requires.sound c.requires.tries.1;
  };
}
