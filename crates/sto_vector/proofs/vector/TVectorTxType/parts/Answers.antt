use Rattle.std.proofs.Common.{suc, arith}
use Rattle.sto_array.specs.ArrayedRows.{length-replicate}
use Rattle.sto_vector.proofs.vector.TVectorTxType.parts.Goals as goal

pub returns : goal.returns
returns c = omega (arith, length-replicate (suc c.args.self.now.capacity))
