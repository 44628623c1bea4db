use Rattle.std.proofs.Common.{◌∙◌, sym}
use Rattle.sto_check_cli.proofs.Dividing.{passed_more, found_any, found_script, found_report}
use Rattle.sto_check_cli.proofs.divide.divide.Goals as goal

pub returns-then-is_report_line-clause-divided : goal.returns-then-is_report_line-clause-divided
returns-then-is_report_line-clause-divided c =
    let line = c.in-Some.line.text.now in
    let e = c.in-Some.ensures.found.0 in
    let same = sym c.is_report_line.ensures ∙ c.if-is_report_line.true in (
      found_any c.args.bytes.now c.loop-line.before c.loop-line.rest.now line c.in-Some.more.now c.loop-line.invariant e same,
      found_script c.args.bytes.now c.loop-line.before c.loop-line.rest.now line c.in-Some.more.now c.loop-line.invariant e same,
      found_report c.args.bytes.now c.loop-line.before c.loop-line.rest.now line c.in-Some.more.now c.loop-line.invariant e same,
    )

pub loop-line-preserved : goal.loop-line-preserved
loop-line-preserved c =
    passed_more c.args.bytes.now c.loop-line.before c.loop-line.rest.now c.in-Some.line.text.now c.in-Some.more.now c.loop-line.invariant c.in-Some.ensures.found.0
    (sym c.is_report_line.ensures ∙ c.if-is_report_line.false)
