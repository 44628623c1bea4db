use Rattle.sto_desk.specs.Reads.{words_in}
use Rattle.sto_desk.specs.Known.{known}
use Rattle.sto_desk_known.proofs.Cached.{cached}
use Rattle.sto_desk_known.proofs.knows.Goals as goal

pub returns : goal.returns
returns g c =
    cached (g.T.TxType.meaning c.args.ty.now) (g.met.T.TxType.lawful c.args.ty.now) (words_in c.args.desk.now.reads) c.args.desk.now.set.updates (known c.args.desk.now.known) c.requires.pending c.requires.inside
    c.recalls.ensures
