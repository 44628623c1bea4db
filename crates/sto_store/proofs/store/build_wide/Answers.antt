use Rattle.std.proofs.Common.{ap, ◌∙◌, arith, map, length-append}
use Rattle.sto_model.specs.declared.shape.Shape.TheVariants.{Array, Hash, Tree, Vector}
use Rattle.sto_store.specs.Stores.{mean_of, AreSized}
use Rattle.sto_type.specs.Joined.{joined, all_joined}
use Rattle.sto_store.proofs.Built.{sum_kinds, kind_objects, kind_widths, sized_objects, sized_widths, whole_widths}
use Rattle.sto_store.proofs.store.build_wide.Goals as goal

pub build_arrays-requires-clause-parts : goal.build_arrays-requires-clause-parts
build_arrays-requires-clause-parts c = omega (arith, whole_widths c.args.shapes.now c.requires.parts)

pub build_hashes-requires-clause-parts : goal.build_hashes-requires-clause-parts
build_hashes-requires-clause-parts c = omega (arith, whole_widths c.args.shapes.now c.requires.parts)

pub new-requires-clause-objects : goal.new-requires-clause-objects
new-requires-clause-objects c =
    let ss = c.args.shapes.now in
    let sized = c.in_ok-sized.sized in
    let three = kind_objects 3 ss (λ x. Hash x.buckets x.places) c.in_ok-hashes.hashes c.in_ok-hashes.ensures in
    let rest = sized_objects ss (λ x. Tree x.leaves) (λ x. Vector x.capacity) sized.first sized.second c.in_ok-sized.ensures in
    omega (arith, three, rest, sum_kinds ss, c.requires.few)

pub new-requires-clause-parts : goal.new-requires-clause-parts
new-requires-clause-parts c =
    let ss = c.args.shapes.now in
    let sized = c.in_ok-sized.sized in
    let three = kind_widths 3 ss (λ x. Hash x.buckets x.places) c.in_ok-hashes.hashes c.in_ok-hashes.ensures in
    let rest = sized_widths ss (λ x. Tree x.leaves) (λ x. Vector x.capacity) sized.first sized.second c.in_ok-sized.ensures in
    omega (arith, three, rest, whole_widths ss c.requires.parts)

pub new-requires-2-clause-objects : goal.new-requires-2-clause-objects
new-requires-2-clause-objects c =
    let ss = c.args.shapes.now in
    let now = c.new.result.second in
    let two = kind_objects 2 ss (λ x. Array x.len x.first) c.in_ok-arrays.arrays c.in_ok-arrays.ensures in
    let three = kind_objects 3 ss (λ x. Hash x.buckets x.places) c.new.result.first (ap (map (λ x. Hash x.buckets x.places)) c.new.ensures.first ∙ c.in_ok-hashes.ensures) in
    let kinds : AreSized (map (λ x. Tree x.leaves) now.first) (map (λ x. Vector x.capacity) now.second) ss = record {
      trees_are = ap (λ b. map (λ x. Tree x.leaves) b.first) c.new.ensures.second ∙ c.in_ok-sized.ensures.trees_are;
      vectors_are = ap (λ b. map (λ x. Vector x.capacity) b.second) c.new.ensures.second ∙ c.in_ok-sized.ensures.vectors_are;
    } in
    let rest = sized_objects ss (λ x. Tree x.leaves) (λ x. Vector x.capacity) now.first now.second kinds in
    let inner = length-append (all_joined (map (λ x. mean_of (Hash x.buckets x.places)) c.new.result.first)).machines
    (joined (all_joined (map (λ x. mean_of (Tree x.leaves)) now.first)) (all_joined (map (λ x. mean_of (Vector x.capacity)) now.second))).machines in
    omega (arith, two, three, rest, inner, sum_kinds ss, c.requires.few)

pub new-requires-2-clause-parts : goal.new-requires-2-clause-parts
new-requires-2-clause-parts c =
    let ss = c.args.shapes.now in
    let now = c.new.result.second in
    let two = kind_widths 2 ss (λ x. Array x.len x.first) c.in_ok-arrays.arrays c.in_ok-arrays.ensures in
    let three = kind_widths 3 ss (λ x. Hash x.buckets x.places) c.new.result.first (ap (map (λ x. Hash x.buckets x.places)) c.new.ensures.first ∙ c.in_ok-hashes.ensures) in
    let kinds : AreSized (map (λ x. Tree x.leaves) now.first) (map (λ x. Vector x.capacity) now.second) ss = record {
      trees_are = ap (λ b. map (λ x. Tree x.leaves) b.first) c.new.ensures.second ∙ c.in_ok-sized.ensures.trees_are;
      vectors_are = ap (λ b. map (λ x. Vector x.capacity) b.second) c.new.ensures.second ∙ c.in_ok-sized.ensures.vectors_are;
    } in
    let rest = sized_widths ss (λ x. Tree x.leaves) (λ x. Vector x.capacity) now.first now.second kinds in
    let inner = length-append (all_joined (map (λ x. mean_of (Hash x.buckets x.places)) c.new.result.first)).widths
    (joined (all_joined (map (λ x. mean_of (Tree x.leaves)) now.first)) (all_joined (map (λ x. mean_of (Vector x.capacity)) now.second))).widths in
    omega (arith, two, three, rest, inner, whole_widths ss c.requires.parts)

pub returns : goal.returns
returns c = record {
  arrays_are = ap (map (λ x. Array x.len x.first)) c.new-2.ensures.first ∙ c.in_ok-arrays.ensures;
  hashes_are = ap (map (λ x. Hash x.buckets x.places)) (ap (λ b. b.first) c.new-2.ensures.second ∙ c.new.ensures.first) ∙ c.in_ok-hashes.ensures;
  sized = record {
    trees_are = ap (λ b. map (λ x. Tree x.leaves) b.second.first) c.new-2.ensures.second ∙ ap (λ b. map (λ x. Tree x.leaves) b.first) c.new.ensures.second ∙ c.in_ok-sized.ensures.trees_are;
    vectors_are = ap (λ b. map (λ x. Vector x.capacity) b.second.second) c.new-2.ensures.second ∙ ap (λ b. map (λ x. Vector x.capacity) b.second) c.new.ensures.second ∙ c.in_ok-sized.ensures.vectors_are;
  };
}
