use Rattle.std.proofs.Common.{ap, ◌∙◌, ◌++◌, ◌∷◌, []}
use Rattle.sto_type.specs.Numbered.{numbered}
use Rattle.sto_record.proofs.Plans.{rows_are}
use Rattle.sto_record.proofs.record.TRecordTxType.rows_at.Goals as goal

pub returns : goal.returns
returns c =
    c.in_ok-push.ensures.ok ∙ ap (λ l. l.items ++ c.in_ok-rows.rows.items ∷ []) c.new-state.ensures
    ∙ ap (λ r. r ∷ []) (c.in_ok-rows.ensures ∙ ap (numbered 0) c.as_slice.ensures.items ∙ rows_are c.args.self.now.width c.args.first c.args.contents.now.items c.requires c.get.result.now.items c.get.ensures)
