use Rattle.std.proofs.Common.{map, string_bytes, length}
use Rattle.sto_lang.specs.Views.{declaration, names_of}
use Rattle.sto_report_spec.specs.Report.{abort_text}
use Rattle.sto_report_spec.specs.Short.{IsShortAbort}
use Rattle.sto_journal.specs.declared.journal.AbortLine.{AbortLine}
use Rattle.sto_journal.specs.Journals.{abort}
use Rattle.sto_journal.proofs.Steps.{held_more, told_more}
use Rattle.sto_journal.proofs.abort.push_aborts.Goals as goal

pub loop-line-preserved : goal.loop-line-preserved
loop-line-preserved c = (
  told_more (abort_text (names_of c.args.threads.now)) (abort (map declaration c.args.decls.now)) c.args.lines.now c.loop-line.line-index c.line-item.result (string_bytes c.args.out.now) (string_bytes c.loop-line.out) (string_bytes c.push_abort.new.out)
      c.loop-line-test.true c.line-item.is c.loop-line.invariant.0 c.in_ok-push_abort.ensures.text,
  held_more (λ (m : AbortLine). IsShortAbort (names_of c.args.threads.now) (abort (map declaration c.args.decls.now) m)) c.args.lines.now c.loop-line.line-index c.line-item.result c.loop-line-test.true c.line-item.is
      c.loop-line.invariant.1 c.in_ok-push_abort.ensures.short,
)
