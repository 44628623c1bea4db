use Rattle.std.proofs.Common.{◌≡◌, ◌≤◌, List, ap, sym, ◌∙◌, arith, subst, [], ◌∷◌, map, length-append}
use Rattle.std.proofs.lemmas.Result.{IfOk-weaker}
use Rattle.sto_model.specs.declared.shape.Shape.{Shape}
use Rattle.sto_model.specs.declared.shape.Shape.TheVariants.{Single, Counter, Array, Hash, Tree, Vector}
use Rattle.sto_part.specs.Codes.{IsSignedCode}
use Rattle.sto_type.specs.Meaning.{IsLawful}
use Rattle.sto_type.specs.Joined.{joined, all_joined}
use Rattle.sto_type.specs.JoinedLaw.{all_lawful}
use Rattle.sto_box.specs.BoxedLaw.{box_lawful, box_opened}
use Rattle.sto_counter.specs.CountedLaw.{counter_lawful}
use Rattle.sto_array.specs.ArrayedLaw.{array_lawful}
use Rattle.sto_hash.specs.HashedLaw.{hash_lawful}
use Rattle.sto_tree.specs.Lawful.{tree_is_lawful}
use Rattle.sto_vector.specs.VectoredLaw.{vector_lawful}
use Rattle.sto_store.specs.Stores.{of_kind, mean_of, means, AreKinds, AreWide}
use Rattle.sto_store.specs.StoresLaw.{means_is, takes_all}
use Rattle.sto_store.proofs.Built.{sum_kinds, kind_objects, kind_widths, wide_objects, wide_widths, whole_widths, same_parts, means_lawful, kind_lawful}
use Rattle.sto_store.specs.declared.objects.Objects.{Objects}
use Rattle.sto_store.specs.declared.wide.Wide.{Wide}
use Rattle.sto_store.proofs.store.build.Goals as goal

-- what stands in this type is of these shapes
abbrev AreOf : List Shape → Wide → Type 0
AreOf ss w =
    AreWide (map (λ x. Array x.len x.first) w.kinds.first) (map (λ x. Hash x.buckets x.places) w.kinds.second.first) (map (λ x. Tree x.leaves) w.kinds.second.second.first) (map (λ x. Vector x.capacity) w.kinds.second.second.second) ss

-- the objects of a store are of these shapes where its kinds are
kinds_are :
    (o : Objects) (ss shapes : List Shape) → ss ≡ shapes → map (λ x. Single x.first) o.store.first ≡ of_kind 0 ss → map (λ x. Counter x.first) o.store.second.first ≡ of_kind 1 ss → AreOf ss o.store.second.second
    → AreKinds (map (λ x. Single x.first) o.store.first) (map (λ x. Counter x.first) o.store.second.first) (map (λ x. Array x.len x.first) o.store.second.second.kinds.first) (map (λ x. Hash x.buckets x.places) o.store.second.second.kinds.second.first) (map (λ x. Tree x.leaves) o.store.second.second.kinds.second.second.first) (map (λ x. Vector x.capacity) o.store.second.second.kinds.second.second.second) shapes
kinds_are o ss shapes same boxes counters wide = record {
  boxes_are = boxes ∙ ap (of_kind 0) same;
  counters_are = counters ∙ ap (of_kind 1) same;
  wide = subst (λ (t : List Shape). AreOf t o.store.second.second) same wide;
}

pub build_boxes-requires-clause-parts : goal.build_boxes-requires-clause-parts
build_boxes-requires-clause-parts c = omega (arith, whole_widths c.as_slice-all.result.now (same_parts c.as_slice-all.result.now c.args.shapes.now.items c.as_slice-all.ensures.items c.requires.parts))

pub build_counters-requires-clause-parts : goal.build_counters-requires-clause-parts
build_counters-requires-clause-parts c = omega (arith, whole_widths c.as_slice-all.result.now (same_parts c.as_slice-all.result.now c.args.shapes.now.items c.as_slice-all.ensures.items c.requires.parts))

pub build_wide-requires-clause-parts : goal.build_wide-requires-clause-parts
build_wide-requires-clause-parts c = same_parts c.as_slice-all.result.now c.args.shapes.now.items c.as_slice-all.ensures.items c.requires.parts

pub new-requires-clause-objects : goal.new-requires-clause-objects
new-requires-clause-objects c =
    let ss = c.as_slice-all.result.now in
    let one = kind_objects 1 ss (λ x. Counter x.first) c.in_ok-counters.counters c.in_ok-counters.ensures in
    let wide = wide_objects ss (λ x. Array x.len x.first) (λ x. Hash x.buckets x.places) (λ x. Tree x.leaves) (λ x. Vector x.capacity) c.in_ok-wide.wide.kinds.first c.in_ok-wide.wide.kinds.second.first c.in_ok-wide.wide.kinds.second.second.first c.in_ok-wide.wide.kinds.second.second.second c.in_ok-wide.ensures in
    omega (arith, one, wide, sum_kinds ss, c.as_slice-all.ensures.few)

pub new-requires-clause-parts : goal.new-requires-clause-parts
new-requires-clause-parts c =
    let ss = c.as_slice-all.result.now in
    let one = kind_widths 1 ss (λ x. Counter x.first) c.in_ok-counters.counters c.in_ok-counters.ensures in
    let wide = wide_widths ss (λ x. Array x.len x.first) (λ x. Hash x.buckets x.places) (λ x. Tree x.leaves) (λ x. Vector x.capacity) c.in_ok-wide.wide.kinds.first c.in_ok-wide.wide.kinds.second.first c.in_ok-wide.wide.kinds.second.second.first c.in_ok-wide.wide.kinds.second.second.second c.in_ok-wide.ensures in
    omega (arith, one, wide, whole_widths ss (same_parts ss c.args.shapes.now.items c.as_slice-all.ensures.items c.requires.parts))

pub new-requires-2-clause-objects : goal.new-requires-2-clause-objects
new-requires-2-clause-objects c =
    let ss = c.as_slice-all.result.now in
    let zero = kind_objects 0 ss (λ x. Single x.first) c.in_ok-boxes.boxes c.in_ok-boxes.ensures in
    let one = kind_objects 1 ss (λ x. Counter x.first) c.new.result.first (ap (map (λ x. Counter x.first)) c.new.ensures.first ∙ c.in_ok-counters.ensures) in
    let now = c.new.result.second.kinds in
    let kinds = subst (AreOf ss) (sym c.new.ensures.second) c.in_ok-wide.ensures in
    let wide = wide_objects ss (λ x. Array x.len x.first) (λ x. Hash x.buckets x.places) (λ x. Tree x.leaves) (λ x. Vector x.capacity) now.first now.second.first now.second.second.first now.second.second.second kinds in
    let inner = length-append (all_joined (map (λ x. mean_of (Counter x.first)) c.new.result.first)).machines
    (joined (all_joined (map (λ x. mean_of (Array x.len x.first)) now.first)) (joined (all_joined (map (λ x. mean_of (Hash x.buckets x.places)) now.second.first)) (joined (all_joined (map (λ x. mean_of (Tree x.leaves)) now.second.second.first)) (all_joined (map (λ x. mean_of (Vector x.capacity)) now.second.second.second))))).machines in
    omega (arith, zero, one, wide, inner, sum_kinds ss, c.as_slice-all.ensures.few)

pub new-requires-2-clause-parts : goal.new-requires-2-clause-parts
new-requires-2-clause-parts c =
    let ss = c.as_slice-all.result.now in
    let zero = kind_widths 0 ss (λ x. Single x.first) c.in_ok-boxes.boxes c.in_ok-boxes.ensures in
    let one = kind_widths 1 ss (λ x. Counter x.first) c.new.result.first (ap (map (λ x. Counter x.first)) c.new.ensures.first ∙ c.in_ok-counters.ensures) in
    let now = c.new.result.second.kinds in
    let kinds = subst (AreOf ss) (sym c.new.ensures.second) c.in_ok-wide.ensures in
    let wide = wide_widths ss (λ x. Array x.len x.first) (λ x. Hash x.buckets x.places) (λ x. Tree x.leaves) (λ x. Vector x.capacity) now.first now.second.first now.second.second.first now.second.second.second kinds in
    let inner = length-append (all_joined (map (λ x. mean_of (Counter x.first)) c.new.result.first)).widths
    (joined (all_joined (map (λ x. mean_of (Array x.len x.first)) now.first)) (joined (all_joined (map (λ x. mean_of (Hash x.buckets x.places)) now.second.first)) (joined (all_joined (map (λ x. mean_of (Tree x.leaves)) now.second.second.first)) (all_joined (map (λ x. mean_of (Vector x.capacity)) now.second.second.second))))).widths in
    omega (arith, zero, one, wide, inner, whole_widths ss (same_parts ss c.args.shapes.now.items c.as_slice-all.ensures.items c.requires.parts))

pub returns-clause-lawful : goal.returns-clause-lawful
returns-clause-lawful c =
    let ss = c.as_slice-all.result.now in
    let bounds : (1 ≤ 1) × (1 ≤ 2) = (omega arith, omega arith) in
    let wide = c.in_ok-wide.ensures in
    let law = subst (λ (t : List Shape). IsLawful (means t)) c.as_slice-all.ensures.items
    (means_lawful ss
    (kind_lawful 0 ss (λ x. Single x.first) c.in_ok-boxes.boxes c.in_ok-boxes.ensures
    (all_lawful (λ x. mean_of (Single x.first)) (λ x. box_lawful 1 IsSignedCode (x.first ∷ []) bounds (box_opened 1 IsSignedCode x.first x.second bounds x.first_fits x.second_fits x.code)) c.in_ok-boxes.boxes))
    (kind_lawful 1 ss (λ x. Counter x.first) c.in_ok-counters.counters c.in_ok-counters.ensures
    (all_lawful (λ x. mean_of (Counter x.first)) (λ x. counter_lawful x.first x.fits) c.in_ok-counters.counters))
    (kind_lawful 2 ss (λ x. Array x.len x.first) c.in_ok-wide.wide.kinds.first wide.arrays_are
    (all_lawful (λ x. mean_of (Array x.len x.first)) (λ x. array_lawful x.len x.first x.fits) c.in_ok-wide.wide.kinds.first))
    (kind_lawful 3 ss (λ x. Hash x.buckets x.places) c.in_ok-wide.wide.kinds.second.first wide.hashes_are
    (all_lawful (λ x. mean_of (Hash x.buckets x.places)) (λ x. hash_lawful x.buckets x.places x.some) c.in_ok-wide.wide.kinds.second.first))
    (kind_lawful 4 ss (λ x. Tree x.leaves) c.in_ok-wide.wide.kinds.second.second.first wide.sized.trees_are
    (all_lawful (λ x. mean_of (Tree x.leaves)) (λ x. tree_is_lawful x.leaves x.some x.few) c.in_ok-wide.wide.kinds.second.second.first))
    (kind_lawful 5 ss (λ x. Vector x.capacity) c.in_ok-wide.wide.kinds.second.second.second wide.sized.vectors_are
    (all_lawful (λ x. mean_of (Vector x.capacity)) (λ x. vector_lawful x.capacity x.few) c.in_ok-wide.wide.kinds.second.second.second))) in
    IfOk-weaker c.new-3.result (λ o. o.store ≡ c.new-2.result) _ (λ o e. law) c.new-3.ensures

pub returns-clause-takes : goal.returns-clause-takes
returns-clause-takes c = IfOk-weaker c.new-3.result (λ o. o.store ≡ c.new-2.result) _
    (λ o e order call t f.
    let shapes = c.args.shapes.now.items in
    let s = o.store in
    let first = ap (λ b. b.first) e ∙ c.new-2.ensures.first in
    let second = ap (λ b. b.second) e ∙ c.new-2.ensures.second in
    let kinds = kinds_are o c.as_slice-all.result.now shapes c.as_slice-all.ensures.items
    (ap (map (λ x. Single x.first)) first ∙ c.in_ok-boxes.ensures)
    (ap (map (λ x. Counter x.first)) (ap (λ b. b.first) second ∙ c.new.ensures.first) ∙ c.in_ok-counters.ensures)
    (subst (AreOf c.as_slice-all.result.now) (sym (ap (λ b. b.second) second ∙ c.new.ensures.second)) c.in_ok-wide.ensures) in
    let is = means_is (λ x. Single x.first) (λ x. Counter x.first) (λ x. Array x.len x.first) (λ x. Hash x.buckets x.places) (λ x. Tree x.leaves) (λ x. Vector x.capacity) s.first s.second.first s.second.second.kinds.first s.second.second.kinds.second.first s.second.second.kinds.second.second.first s.second.second.kinds.second.second.second shapes kinds in
    subst (λ m. m.takes call) (sym is) ((takes_all shapes order).takes call t f))
    c.new-3.ensures

pub returns-clause-kinds : goal.returns-clause-kinds
returns-clause-kinds c = IfOk-weaker c.new-3.result (λ o. o.store ≡ c.new-2.result) _
    (λ o e.
    let first = ap (λ b. b.first) e ∙ c.new-2.ensures.first in
    let second = ap (λ b. b.second) e ∙ c.new-2.ensures.second in
    kinds_are o c.as_slice-all.result.now c.args.shapes.now.items c.as_slice-all.ensures.items
    (ap (map (λ x. Single x.first)) first ∙ c.in_ok-boxes.ensures)
    (ap (map (λ x. Counter x.first)) (ap (λ b. b.first) second ∙ c.new.ensures.first) ∙ c.in_ok-counters.ensures)
    (subst (AreOf c.as_slice-all.result.now) (sym (ap (λ b. b.second) second ∙ c.new.ensures.second)) c.in_ok-wide.ensures))
    c.new-3.ensures
