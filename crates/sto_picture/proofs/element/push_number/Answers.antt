use Rattle.sto_lang.proofs.AsciiLemmas.{tested}
use Rattle.sto_picture.proofs.element.push_number.Goals as goal

pub append-requires : goal.append-requires
append-requires c = tested c.format.result.now c.format.ensures.ascii
