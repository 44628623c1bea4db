use Rattle.std.proofs.Common.{◌∙◌}
use Rattle.sto_attempt_log.proofs.Finding.{found_is}
use Rattle.sto_attempt_log.proofs.lists.is_seen.Goals as goal

pub returns : goal.returns
returns c = c.is_ok.ensures.value ∙ found_is c.args.parts.now c.args.part c.binary_search.result c.requires c.binary_search.ensures.position
