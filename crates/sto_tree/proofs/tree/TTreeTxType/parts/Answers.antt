use Rattle.std.proofs.Common.{sym}
use Rattle.sto_tree.specs.Layout.{parts_of, width_of}
use Rattle.sto_tree.specs.Sized.{length-listed}
use Rattle.sto_tree.proofs.tree.TTreeTxType.parts.Goals as goal

pub returns : goal.returns
returns c = sym (length-listed (width_of c.args.self.now.leaves) 0 (parts_of c.args.self.now.leaves))
