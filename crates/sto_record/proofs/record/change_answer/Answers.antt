use Rattle.std.proofs.Common.{◌∙◌, ap, arith}
use Rattle.std.specs.List.{list_all}
use Rattle.sto_item.specs.Pending.{is_keep}
use Rattle.sto_type.specs.Words.{at_word-changes}
use Rattle.sto_record.proofs.record.change_answer.Goals as goal

pub push-requires-clause-ordered : goal.push-requires-clause-ordered
push-requires-clause-ordered c =
    rw c.updates-updates.ensures ((omega arith, tt), (ap (list_all is_keep) c.in_ok-update.ensures ∙ at_word-changes c.args.width c.args.place c.args.change c.requires.place c.requires.changes, tt))
