use Rattle.sto_lang.proofs.AsciiLemmas.{tested}
use Rattle.sto_explore.proofs.words.push_count.Goals as goal

pub append-requires-2 : goal.append-requires-2
append-requires-2 c = tested c.format.result.now c.format.ensures.ascii
