use Rattle.std.proofs.Common.{◌≡◌, map, take}
use Rattle.sto_model.specs.declared.shape.Shape.TheVariants.{Vector}
use Rattle.sto_store.specs.Stores.{of_kind}
use Rattle.sto_store.proofs.store.build_vectors.Given as goal

abbrev pub invariant-loop-shape : goal.invariant-loop-shape
invariant-loop-shape l = map (λ x. Vector x.capacity) l.made ≡ of_kind 5 (take l.shape-index l.shapes)
