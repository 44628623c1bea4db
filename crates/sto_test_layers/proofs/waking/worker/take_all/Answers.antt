use Rattle.sto_test_layers.proofs.Passes.{still}
use Rattle.sto_test_layers.proofs.waking.worker.take_all.Goals as goal

pub loop-init : goal.loop-init
loop-init g c = record { pass = c.requires }

pub take-requires : goal.take-requires
take-requires g c = record { of = c.loop.invariant.pass }

pub loop-preserved : goal.loop-preserved
loop-preserved g c = record { pass = still c.args.queue.now c.loop.worker c.take.new.worker c.loop.invariant.pass c.in-None-take.ensures.none.1 }
