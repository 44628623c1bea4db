use Rattle.std.proofs.Common.{length}
use Rattle.sto_bench.proofs.Texts.{summary_ascii}
use Rattle.sto_bench.proofs.text.summary.Goals as goal

pub of_string-requires : goal.of_string-requires
of_string-requires c =
    rw (c.in-Ok.ensures, c.new-out.ensures.bytes)
    (summary_ascii c.args.number (length c.args.journal.now.lines.items) c.args.journal.now.state.items)
