use Rattle.sto_test_layers.proofs.waking.trial.jobs_of.Goals as goal

pub returns : goal.returns
returns c = (c.loop-position.jobs.items, c.loop-position.invariant.runs, c.in_ok-push-2.ensures.items)
