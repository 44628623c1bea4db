use Rattle.std.proofs.Common.{◌∙◌, arith}
use Rattle.sto_type.proofs.Cached.{known-here}
use Rattle.sto_desk_known.proofs.Same.{same_known}
use Rattle.sto_desk_known.proofs.parts.DeskParts.get.Goals as goal

pub returns-then-place : goal.returns-then-place
returns-then-place c =
    rw (← c.self.view_is)
    (known-here c.self.inside.desk.now.known c.self.inside.first c.args.part c.saturating_add-place.result c.self.invariant c.saturating_add-place.ensures ∙ c.self.invariant c.saturating_add-place.result (omega (arith, c.if-place.true)))

pub returns : goal.returns
returns c =
    rw (← c.self.view_is)
    (known-here c.self.inside.desk.now.known c.self.inside.first c.args.part c.saturating_add-place.result c.self.invariant c.saturating_add-place.ensures
    ∙ same_known c.self.inside.desk.now.known c.saturating_add-place.result ∙ c.known.ensures)
