-- The worker is what its parts are.
use Rattle.std.proofs.Common.{subst}
use Rattle.sto_action.specs.Atomic.{HasLed}
use Rattle.sto_library.specs.Values.{Working}
use Rattle.sto_library.proofs.worker.StoreWorker.lead.Goals as goal

pub returns-clause-led : goal.returns-clause-led
returns-clause-led g c =
    subst (λ (s : Working g.row.T.Denot). HasLed (g.T.TxType.meaning s.words.ty) s.seat.me.0.view c.atomically.new.cells.seat.me.0.view c.args.tries c.atomically.new.left s.shapes
    (g.K.Action.most c.args.code.now) (g.K.Action.does c.args.code.now) c.atomically.result) c.self.view_is c.atomically.ensures.led
