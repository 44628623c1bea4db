use Rattle.std.proofs.Common.{◌≡◌, ◌∷◌, [], ◌++◌, ◌+◌, List, ℕ, Some, ap, ◌∙◌, sym, arith, map, length, slice_get}
use Rattle.std.specs.Option.{option_map}
use Rattle.std.proofs.lemmas.List.{take_all, map-append, length-map, length_push}
use Rattle.std.proofs.lemmas.Option.{slice_get-map}
use Rattle.sto_lang.specs.declared.text.Text.{Text}
use Rattle.sto_model.specs.declared.shape.Shape.{Shape}
use Rattle.sto_lang.specs.Objects.{Declaration, with_numbers, declarations_of, numbers_of}
use Rattle.sto_lang.specs.ObjectTables.{objects_of}
use Rattle.sto_lang.specs.Views.{declaration}
use Rattle.sto_lang.proofs.ObjectLemmas.{declared_at, take_found, number_count, declared_count, count_of_objects, shapes_of_objects}
use Rattle.sto_lang.proofs.objects.DeclaredObjects.into_decls.Goals as goal

pub get-requires-in-loop-place-2 : goal.get-requires-in-loop-place-2
get-requires-in-loop-place-2 c =
    let o = c.self.inside in
    let bytes = λ (name : Text). name.items in
    let names : length (map bytes c.into_names-names.result.items) ≡ length c.into_names-names.result.items = length-map c.into_names-names.result.items bytes in
    let same : length (map bytes c.into_names-names.result.items) ≡ length o.names = ap length c.into_names-names.ensures in
    let count : length o.numbers.items ≡ length o.shapes.items = ap length c.self.invariant.numbered ∙ number_count o.shapes.items [] o.shapes.items in
    omega (arith, names, same, count, c.self.invariant.paired)

pub loop-place-preserved : goal.loop-place-preserved
loop-place-preserved c =
    let o = c.self.inside in
    let bytes = λ (name : Text). name.items in
    let names : List (List ℕ) = map bytes c.into_names-names.result.items in
    let all : List Declaration = with_numbers (objects_of names o.shapes.items) o.numbers.items in
    let place : ℕ = c.loop-place.place in
    let d : Declaration = record { name = c.in_ok-copied.field-0.items; shape = c.get-in-loop-place.result.now; number = c.get-in-loop-place-2.result.now } in
    let name : slice_get names place ≡ Some c.in_ok-copied.field-0.items =
    slice_get-map bytes c.into_names-names.result.items place ∙ ap (option_map bytes) c.get.ensures ∙ ap Some (sym c.in_ok-copied.ensures) in
    let at : slice_get all place ≡ Some d = declared_at names o.shapes.items o.numbers.items place d.name d.shape d.number name c.get-in-loop-place.ensures c.get-in-loop-place-2.ensures in (
      ap (map declaration) c.in_ok-push.ensures.ok
          ∙ map-append declaration c.loop-place.decls.items (record { name = c.in_ok-copied.field-0; shape = c.get-in-loop-place.result.now; number = c.get-in-loop-place-2.result.now } ∷ [])
          ∙ ap (λ l. l ++ d ∷ []) c.loop-place.invariant.0
          ∙ sym (take_found all place d at),
      ap length c.in_ok-push.ensures.ok ∙ length_push _ _ ∙ ap (λ n. n + 1) c.loop-place.invariant.1,
    )

pub returns : goal.returns
returns c =
    let o = c.self.inside in
    let bytes = λ (name : Text). name.items in
    let names : List (List ℕ) = map bytes c.into_names-names.result.items in
    let all : List Declaration = with_numbers (objects_of names o.shapes.items) o.numbers.items in
    let count : length names ≡ length c.into_names-names.result.items = length-map c.into_names-names.result.items bytes in
    let same : length names ≡ length o.names = ap length c.into_names-names.ensures in
    let numbers : length o.numbers.items ≡ length o.shapes.items = ap length c.self.invariant.numbered ∙ number_count o.shapes.items [] o.shapes.items in
    let paired : length names ≡ length o.shapes.items = omega (arith, same, c.self.invariant.paired) in
    let objects : length (objects_of names o.shapes.items) ≡ length o.shapes.items = count_of_objects names o.shapes.items paired in
    let total : length all ≡ length o.numbers.items = declared_count (objects_of names o.shapes.items) o.numbers.items (omega (arith, objects, numbers)) in
    c.loop-place.invariant.0
    ∙ take_all c.loop-place.place all (omega (arith, total, numbers, paired, count))
    ∙ (λ i. with_numbers (objects_of (c.into_names-names.ensures i) o.shapes.items) (c.self.invariant.numbered i))
    ∙ ap (λ (l : List Shape). with_numbers (objects_of o.names o.shapes.items) (numbers_of l)) (sym (shapes_of_objects o.names o.shapes.items c.self.invariant.paired))
    ∙ ap declarations_of c.self.view_is
