use Rattle.sto_type.specs.Traits.{of_type}
use Rattle.sto_library.proofs.Doings.{led_given}
use Rattle.sto_library.proofs.worker.StoreWorker.run_with.Goals as goal

pub returns-clause-given : goal.returns-clause-given
returns-clause-given g c =
    led_given (of_type g.T.Naming g.T.TxType) c.args.self.now c.lead.new.self (g.K.Action.most c.args.code.now) (g.K.Action.does c.args.code.now) c.lead.ensures.same.0 c.lead.ensures.same.1 c.lead.ensures.grows c.args.tries c.lead.result c.lead.ensures.led
