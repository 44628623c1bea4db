use Rattle.sto_script.proofs.TakenCalls.{taken}
use Rattle.sto_test_texts.proofs.body.run.Goals as goal

pub serial_run-requires-clause-taken : goal.serial_run-requires-clause-taken
serial_run-requires-clause-taken c = λ call h. taken c.args.shapes.now.items c.args.script.now.body c.requires.taken call (c.in_ok-body.ensures.may call h)
