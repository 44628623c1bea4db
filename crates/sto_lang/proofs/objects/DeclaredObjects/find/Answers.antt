use Rattle.std.proofs.Common.{◌≡◌, ◌∙◌, [], sym, ap, List, ℕ, Some, arith, ◌<◌, length, position}
use Rattle.std.specs.Option.{option_map}
use Rattle.std.specs.Str.{bytes_eq}
use Rattle.std.proofs.lemmas.List.Quantifiers.{position-Some}
use Rattle.sto_lang.specs.Objects.{Object, named}
use Rattle.sto_lang.specs.ObjectViews.{known}
use Rattle.sto_lang.proofs.ObjectLemmas.{named_at, unnamed, number_count}
use Rattle.sto_lang.proofs.objects.DeclaredObjects.find.Goals as goal

-- a place that was found is one of the names'
found_within : (name : List ℕ) (names : List (List ℕ)) (place : ℕ) → Some place ≡ position (bytes_eq name) names → place < length names
found_within name names place e = (position-Some (bytes_eq name) names place [] (sym e)).0

pub returns-in_err-place : goal.returns-in_err-place
returns-in_err-place c =
    let o = c.self.inside in
    let name : List ℕ = c.args.name.now.bytes.now in
    c.from_residual.ensures
    ∙ sym (ap (λ (objects : List Object). option_map known (named name objects)) (sym c.self.view_is)
    ∙ unnamed name o.names o.shapes.items c.self.invariant.paired (sym c.in_err-place.ensures))

pub get-requires : goal.get-requires
get-requires c =
    let o = c.self.inside in
    let within = found_within c.args.name.now.bytes.now o.names c.in_ok-place.place c.in_ok-place.ensures in
    omega (arith, within, c.self.invariant.paired)

pub get-requires-2 : goal.get-requires-2
get-requires-2 c =
    let o = c.self.inside in
    let within = found_within c.args.name.now.bytes.now o.names c.in_ok-place.place c.in_ok-place.ensures in
    let count : length o.numbers.items ≡ length o.shapes.items = ap length c.self.invariant.numbered ∙ number_count o.shapes.items [] o.shapes.items in
    omega (arith, within, count, c.self.invariant.paired)

pub returns : goal.returns
returns c =
    let o = c.self.inside in
    let name : List ℕ = c.args.name.now.bytes.now in
    sym (ap (λ (objects : List Object). option_map known (named name objects)) (sym c.self.view_is)
    ∙ named_at name o.names o.shapes.items o.numbers.items c.in_ok-place.place c.get.result.now c.get-2.result.now c.self.invariant.paired c.self.invariant.numbered
    (sym c.in_ok-place.ensures) c.get.ensures c.get-2.ensures)
