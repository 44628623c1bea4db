use Rattle.std.proofs.Common.{ap, ◌∙◌, arith, map}
use Rattle.sto_model.specs.declared.shape.Shape.TheVariants.{Tree, Vector}
use Rattle.sto_store.proofs.Built.{sum_kinds, kind_objects, kind_widths, whole_widths}
use Rattle.sto_store.proofs.store.build_sized.Goals as goal

pub build_trees-requires-clause-parts : goal.build_trees-requires-clause-parts
build_trees-requires-clause-parts c = omega (arith, whole_widths c.args.shapes.now c.requires.parts)

pub build_vectors-requires-clause-parts : goal.build_vectors-requires-clause-parts
build_vectors-requires-clause-parts c = omega (arith, whole_widths c.args.shapes.now c.requires.parts)

pub new-requires-clause-objects : goal.new-requires-clause-objects
new-requires-clause-objects c =
    let ss = c.args.shapes.now in
    let four = kind_objects 4 ss (λ x. Tree x.leaves) c.in_ok-trees.trees c.in_ok-trees.ensures in
    let five = kind_objects 5 ss (λ x. Vector x.capacity) c.in_ok-vectors.vectors c.in_ok-vectors.ensures in
    omega (arith, four, five, sum_kinds ss, c.requires.few)

pub new-requires-clause-parts : goal.new-requires-clause-parts
new-requires-clause-parts c =
    let ss = c.args.shapes.now in
    let four = kind_widths 4 ss (λ x. Tree x.leaves) c.in_ok-trees.trees c.in_ok-trees.ensures in
    let five = kind_widths 5 ss (λ x. Vector x.capacity) c.in_ok-vectors.vectors c.in_ok-vectors.ensures in
    omega (arith, four, five, whole_widths ss c.requires.parts)

pub returns : goal.returns
returns c = record {
  trees_are = ap (map (λ x. Tree x.leaves)) c.new.ensures.first ∙ c.in_ok-trees.ensures;
  vectors_are = ap (map (λ x. Vector x.capacity)) c.new.ensures.second ∙ c.in_ok-vectors.ensures;
}
