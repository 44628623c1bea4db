use Rattle.std.proofs.Common.{sym, ◌∙◌}
use Rattle.sto_lang.proofs.Differing.{list_any_map}
use Rattle.sto_journal.specs.Journals.{entry}
use Rattle.sto_draw.specs.Scenes.{is_late}
use Rattle.sto_draw.proofs.late.has_late.Goals as goal

pub returns : goal.returns
returns c = c.any_late.ensures ∙ sym (list_any_map (is_late c.args.steps.now) entry c.args.lines.now)
