use Rattle.sto_lang.proofs.AsciiLemmas.{tested}
use Rattle.sto_run_orders.proofs.words.push_number.Goals as goal

pub append-requires : goal.append-requires
append-requires c = tested c.format.result.now c.format.ensures.ascii
