use Rattle.std.proofs.Common.{◌≡◌, length, take}
use Rattle.sto_store.proofs.measure.widths_of.Given as goal

abbrev pub invariant-loop-part : goal.invariant-loop-part
invariant-loop-part g l = record {
  items : l.widths.items ≡ take l.part (g.T.TxType.meaning l.ty).widths;
  count : length l.widths.items ≡ l.part;
}
