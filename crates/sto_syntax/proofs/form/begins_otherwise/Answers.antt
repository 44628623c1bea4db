use Rattle.std.proofs.Common.{sym, ◌∙◌}
use Rattle.sto_syntax.proofs.Firsts.{not_true, not_assigned}
use Rattle.sto_syntax.proofs.form.begins_otherwise.Goals as goal

pub returns-then-first-ne61 : goal.returns-then-first-ne61
returns-then-first-ne61 c =
    λ e. not_assigned c.args.rest.now c.in-len1-up.len_at_least c.if-first-ne61.true (sym c.is_blank.ensures ∙ not_true c.is_blank.result e)
