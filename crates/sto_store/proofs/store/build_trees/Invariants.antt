use Rattle.std.proofs.Common.{◌≡◌, map, take}
use Rattle.sto_model.specs.declared.shape.Shape.TheVariants.{Tree}
use Rattle.sto_store.specs.Stores.{of_kind}
use Rattle.sto_store.proofs.store.build_trees.Given as goal

abbrev pub invariant-loop-shape : goal.invariant-loop-shape
invariant-loop-shape l = map (λ x. Tree x.leaves) l.made ≡ of_kind 4 (take l.shape-index l.shapes)
