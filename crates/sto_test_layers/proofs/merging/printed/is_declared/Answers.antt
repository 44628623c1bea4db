use Rattle.std.proofs.Common.{◌∙◌, sym}
use Rattle.sto_test_layers.proofs.Declared.{declared}
use Rattle.sto_test_layers.proofs.merging.printed.is_declared.Goals as goal

pub returns : goal.returns
returns c = c.any_has_number.ensures ∙ sym (declared c.args.decls.now c.args.object)
