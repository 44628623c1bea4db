use Rattle.sto_lang.proofs.AsciiLemmas.{tested}
use Rattle.sto_explore.proofs.words.push_report.Goals as goal

pub append-requires : goal.append-requires
append-requires c = tested c.args.report.now c.if-is_ascii.ensures.cases
