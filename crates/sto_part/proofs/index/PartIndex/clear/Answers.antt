use Rattle.std.proofs.Common.{◌+◌, ◌∙◌}
use Rattle.sto_part.proofs.Stamped.{place_told, none_next}
use Rattle.sto_part.proofs.index.PartIndex.clear.Goals as goal

pub returns-then-len-le-MOST_FAR : goal.returns-then-len-le-MOST_FAR
returns-then-len-le-MOST_FAR c q =
    let i = c.self.inside in
    place_told (i.generation + 1) i.near.items i.far.entries q ∙ none_next i.generation i.near.items i.far.entries q c.self.invariant.2 c.self.invariant.3
