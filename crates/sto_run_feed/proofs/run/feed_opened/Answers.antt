use Rattle.std.proofs.Common.{arith}
use Rattle.sto_run_feed.proofs.run.feed_opened.Goals as goal

pub feed_threads-requires-clause-ready : goal.feed_threads-requires-clause-ready
feed_threads-requires-clause-ready g c = λ κs within. (c.requires.runnable.taken, let some = c.requires.runnable.tries.0 in omega (arith, some))

pub feed_threads-requires-clause-opens : goal.feed_threads-requires-clause-opens
feed_threads-requires-clause-opens g c = λ κs within. c.requires.runnable.opens

pub journal-requires-clause-sound : goal.journal-requires-clause-sound
journal-requires-clause-sound g c = λ κs within. c.requires.runnable.sound

pub journal-requires-clause-type_of : goal.journal-requires-clause-type_of
journal-requires-clause-type_of g c = λ κs within. c.requires.runnable.type_of

pub journal-requires-clause-tries : goal.journal-requires-clause-tries
journal-requires-clause-tries g c = λ κs within. c.requires.runnable.tries.1

pub returns-clause-alone : goal.returns-clause-alone
returns-clause-alone g c = λ one. c.journal.ensures.alone (c.in_ok-finished.ensures.alone one)
