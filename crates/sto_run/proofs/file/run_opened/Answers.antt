use Rattle.std.proofs.Common.{arith}
use Rattle.sto_run.proofs.Turns.{ran_alone}
use Rattle.sto_run.proofs.file.run_opened.Goals as goal

pub run_threads-requires-clause-ready : goal.run_threads-requires-clause-ready
run_threads-requires-clause-ready g c = λ κs within. (c.requires.runnable.taken, let some = c.requires.runnable.tries.0 in omega (arith, some))

pub run_threads-requires-clause-opens : goal.run_threads-requires-clause-opens
run_threads-requires-clause-opens g c = λ κs within. c.requires.runnable.opens

pub journal-requires-clause-sound : goal.journal-requires-clause-sound
journal-requires-clause-sound g c = λ κs within. c.requires.runnable.sound

pub journal-requires-clause-type_of : goal.journal-requires-clause-type_of
journal-requires-clause-type_of g c = λ κs within. c.requires.runnable.type_of

pub journal-requires-clause-tries : goal.journal-requires-clause-tries
journal-requires-clause-tries g c = λ κs within. c.requires.runnable.tries.1

pub returns-clause-alone : goal.returns-clause-alone
returns-clause-alone g c = λ one.
    ran_alone (g.F.Workload.file c.args.run.now.work.workload) c.journal.result (c.journal.ensures.alone (c.in_ok-finished.ensures.alone one))
    (c.journal.ensures.in_turn (c.in_ok-finished.ensures.in_turn one (let some = c.requires.runnable.tries.0 in omega (arith, some))))
