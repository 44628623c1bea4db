use Rattle.std.proofs.Common.{◌≡◌, List, length, map, take_all, Some, slice_get, refl, sym, ap, ◌∙◌, arith}
use Rattle.std.proofs.lemmas.Option.{slice_get_read}
use Rattle.sto_journal.specs.declared.journal.Line.{Line}
use Rattle.sto_journal.specs.Journals.{entry}
use Rattle.sto_orders.specs.Keys.{last_writers}
use Rattle.sto_orders.proofs.Filling.{writers_more_lines}
use Rattle.sto_orders.proofs.key.writers_in.Goals as goal

pub loop-line-preserved : goal.loop-line-preserved
loop-line-preserved c =
    let lines = c.args.lines.now in
    let line = c.line-item.result in
    let at : slice_get lines c.loop-line.line-index ≡ Some line = slice_get_read lines (length lines) c.loop-line.line-index line refl c.loop-line-test.true c.line-item.is in
    sym (writers_more_lines lines c.loop-line.line-index line at)

pub returns : goal.returns
returns c =
    c.loop-line.invariant
    ∙ ap (λ (ls : List Line). last_writers 0 (map entry ls)) (take_all c.loop-line.line-index c.args.lines.now (omega (arith, c.loop-line-test.false)))
