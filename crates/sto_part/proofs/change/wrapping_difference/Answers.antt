use Rattle.std.specs.Int.{w64}
use Rattle.std.proofs.lemmas.Int.{wrapping_sub_is}
use Rattle.sto_part.proofs.change.wrapping_difference.Goals as goal

pub returns : goal.returns
returns c = wrapping_sub_is w64 c.args.one c.args.other c.ranges.one c.ranges.other
