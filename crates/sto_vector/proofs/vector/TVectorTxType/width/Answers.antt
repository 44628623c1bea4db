use Rattle.std.proofs.Common.{suc, arith}
use Rattle.sto_array.specs.ArrayedRows.{length-replicate, one_there}
use Rattle.sto_vector.proofs.vector.TVectorTxType.width.Goals as goal

pub returns : goal.returns
returns c = one_there (suc c.args.self.now.capacity) c.args.part (omega (arith, c.requires, length-replicate (suc c.args.self.now.capacity)))
