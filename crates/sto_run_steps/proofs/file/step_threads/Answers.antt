use Rattle.std.specs.List.{flat_map}
use Rattle.std.specs.Prelude.{None}
use Rattle.std.proofs.Common.{◌++◌, length, max, subst}
use Rattle.sto_core.specs.Opened.{opened_core}
use Rattle.sto_run_threads.specs.Plans.{thread_count}
use Rattle.sto_run_threads.specs.Told.{told_in}
use Rattle.sto_run_steps.specs.Logged.{RunLog}
use Rattle.sto_run_steps.specs.Turning.{WereStepped, entry_turns, round_turns}
use Rattle.sto_run_steps.proofs.Turns.{none_kept}
use Rattle.sto_run_steps.proofs.file.step_threads.Goals as goal

pub returns-clause-stepped : goal.returns-clause-stepped
returns-clause-stepped g c =
    let plan = g.W.Work.plan c.args.work.now in let heard = g.W.Attempts.heard c.args.work.now in
    let opened = opened_core (g.T.Naming.sizes c.args.ty.now) c.args.contents.now.items (max 1 (thread_count plan)) in
    let k = c.in_ok-run.ensures.stepped in
    let none = none_kept g.T.Naming.valid heard (flat_map entry_turns c.args.schedule.now ++ round_turns (length k.seats) k.rounds) opened k.stepped k.seats k.later _ k.turns in
    subst (λ (o : RunLog). WereStepped plan (g.W.Attempts.fits c.args.work.now) g.T.Naming.valid heard c.args.schedule.now opened None (told_in c.in_ok-run.run'.records) o) none k
