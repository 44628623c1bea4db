use Rattle.sto_type.proofs.Cached.{known-all}
use Rattle.sto_desk_known.proofs.parts.DeskParts.of.Goals as goal

pub returns : goal.returns
returns c = known-all c.args.desk.now.known
