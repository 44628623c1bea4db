use Rattle.std.proofs.Common.{◌≡◌, ◌+◌, ◌∷◌, [], ◌++◌, List, length, arith, ap, sym, ◌∙◌}
use Rattle.std.proofs.lemmas.List.{length_push}
use Rattle.sto_lang.specs.Shapes.{in_order}
use Rattle.sto_lang.specs.Objects.{Object, object_place, numbers_of}
use Rattle.sto_lang.specs.Limits.{is_full}
use Rattle.sto_lang.specs.ObjectTables.{objects_of}
use Rattle.sto_lang.proofs.ObjectLemmas.{place_of_name, count_of_objects, objects_push, fits, grown}
use Rattle.sto_lang.proofs.objects.DeclaredObjects.with.Goals as goal

pub add-requires-clause-absent : goal.add-requires-clause-absent
add-requires-clause-absent c =
    let o = c.self.inside in
    sym (place_of_name c.args.name.now.bytes.now o.names o.shapes.items c.self.invariant.paired) ∙ ap (object_place c.args.name.now.bytes.now) c.self.view_is ∙ c.requires.absent

pub part_count-requires : goal.part_count-requires
part_count-requires c = let f = fits 2 c.args.self c.args.shape c.requires.room in omega (arith, f.few_parts)

pub word_count-requires : goal.word_count-requires
word_count-requires c = let f = fits 2 c.args.self c.args.shape c.requires.room in omega (arith, f.few_words)

pub numbers-requires : goal.numbers-requires
numbers-requires c =
    let o = c.self.inside in
    let f = fits 2 c.args.self c.args.shape c.requires.room in
    let count : length o.shapes.items ≡ length c.args.self = sym (count_of_objects o.names o.shapes.items c.self.invariant.paired) ∙ ap length c.self.view_is in
    omega (arith, ap length c.as_slice.ensures.items, ap length c.in_ok-push.ensures.ok, length_push o.shapes.items c.args.shape, count, f.few)

pub in_order-requires : goal.in_order-requires
in_order-requires c =
    let o = c.self.inside in
    let f = fits 2 c.args.self c.args.shape c.requires.room in
    let count : length o.shapes.items ≡ length c.args.self = sym (count_of_objects o.names o.shapes.items c.self.invariant.paired) ∙ ap length c.self.view_is in
    omega (arith, ap length c.as_slice-2.ensures.items, ap length c.in_ok-push.ensures.ok, length_push o.shapes.items c.args.shape, count, f.few)

pub invariant_of-result : goal.invariant_of-result
invariant_of-result c =
    let o = c.self.inside in
    grown o.names o.shapes.items o.numbers.items o.ordered.items o.parts o.words c.args.name.now.bytes.now c.args.shape c.self.invariant
    (fits 2 (objects_of o.names o.shapes.items) c.args.shape (ap (λ (objects : List Object). is_full 2 objects c.args.shape) c.self.view_is ∙ c.requires.room))
    c.add.new.self c.push.new.self.items c.in_ok-numbers.numbers.items c.in_ok-ordered.ordered.items _ _
    c.in_ok-add.ensures c.in_ok-push.ensures.ok
    (c.in_ok-numbers.ensures ∙ ap numbers_of c.as_slice.ensures.items)
    (c.in_ok-ordered.ensures ∙ ap in_order c.as_slice-2.ensures.items)
    (ap (λ n. o.parts + n) c.part_count.ensures) (ap (λ n. o.words + n) c.word_count.ensures)

pub returns : goal.returns
returns c =
    let o = c.self.inside in
    (λ i. objects_of (c.in_ok-add.ensures i) (c.in_ok-push.ensures.ok i))
    ∙ objects_push o.names o.shapes.items c.args.name.now.bytes.now c.args.shape c.self.invariant.paired
    ∙ ap (λ (objects : List Object). objects ++ record { name = c.args.name.now.bytes.now; shape = c.args.shape } ∷ []) c.self.view_is
