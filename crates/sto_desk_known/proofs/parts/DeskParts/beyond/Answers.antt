use Rattle.sto_type.proofs.Cached.{known-further}
use Rattle.sto_desk_known.proofs.parts.DeskParts.beyond.Goals as goal

pub returns : goal.returns
returns c = rw (← c.self.view_is, c.saturating_add.ensures) (known-further c.self.inside.desk.now.known c.self.inside.first c.args.parts c.self.invariant)
