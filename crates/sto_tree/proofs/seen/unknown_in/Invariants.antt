use Rattle.std.proofs.Common.{◌≡◌, drop}
use Rattle.sto_type.specs.Known.{known}
use Rattle.sto_tree.specs.Walked.{first_unknown}
use Rattle.sto_tree.proofs.seen.unknown_in.Given as goal

abbrev pub invariant-loop-part : goal.invariant-loop-part
invariant-loop-part l = first_unknown (known l.cache) l.parts ≡ first_unknown (known l.cache) (drop l.part-index l.parts)
