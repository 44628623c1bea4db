use Rattle.std.proofs.Common.{◌≡◌, ℕ, List, ◌++◌, length, Some, slice_get, sym, ap, ◌∙◌, refl}
use Rattle.std.proofs.lemmas.Option.{slice_get_read}
use Rattle.sto_lang.specs.Views.{names_of}
use Rattle.sto_journal.specs.Journals.{entry}
use Rattle.sto_orders.specs.Outcomes.{own_text}
use Rattle.sto_orders.proofs.Filling.{text_more_lines}
use Rattle.sto_orders.proofs.key.thread_text.Goals as goal

pub loop-line-preserved : goal.loop-line-preserved
loop-line-preserved c =
    let lines = c.args.lines.now in
    let names = names_of c.args.threads.now in
    let line = c.line-item.result in
    let at : slice_get lines c.loop-line.line-index ≡ Some line = slice_get_read lines (length lines) c.loop-line.line-index line refl c.loop-line-test.true c.line-item.is in
    c.in_ok-push_own.ensures
    ∙ ap (λ (bs : List ℕ). bs ++ own_text c.args.by names c.args.thread (entry line)) c.loop-line.invariant
    ∙ sym (text_more_lines c.args.by names lines c.loop-line.line-index line c.args.thread at)
