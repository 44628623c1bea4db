use Rattle.sto_transaction.proofs.Beginning.{new_runs}
use Rattle.sto_transaction.proofs.machine.Machine.new.Goals as goal

pub returns-clause-proceeds : goal.returns-clause-proceeds
returns-clause-proceeds g c passes v rest some =
    let e = c.new.ensures in (
      rest,
      new_runs g.T.TxType.meaning g.T.Naming.valid g.T.Naming.sizes g.B.Body.script g.B.Body.then g.B.Body.left g.B.Body.may_ask passes c.args.ty.now (g.B.Body.script c.args.body) _ v
          e.ty e.script e.log e.none e.fresh e.read_phase rest some,
    )
