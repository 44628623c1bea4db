use Rattle.std.proofs.lemmas.Int.{to_z-of_z}
use Rattle.sto_model.specs.Ranges.{SomeIff-in_range}
use Rattle.sto_library.proofs.contents.checked_sum.Goals as goal

pub returns-clause-fits : goal.returns-clause-fits
returns-clause-fits c =
    let f = c.ranges.one in
    let g = c.ranges.other in
    let h = simp to_z-of_z at c.checked_add.ensures in
    SomeIff-in_range c.checked_add.result _ h
